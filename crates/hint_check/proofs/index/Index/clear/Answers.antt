use Rattle.std.proofs.Common.{sym, subst}
use Rattle.hint_check.specs.Inner.Index.{LeadBack, NotesLast, numbers_of}
use Rattle.hint_check.specs.Inner.Stamps.{Forgets}
use Rattle.hint_check.proofs.IndexChains.{LeadBack-none, NotesLast-forgotten}
use Rattle.hint_check.proofs.index.Index.clear.Goals as goal

pub invariant_of-self : goal.invariant_of-self
invariant_of-self c =
    let inside = c.self.inside in
    let heads = c.forget_heads.new.heads in
    let links = sym c.clear.ensures.items in (
      subst LeadBack links LeadBack-none,
      subst (λ l. NotesLast l heads) links
          (NotesLast-forgotten inside.links.items inside.heads heads c.self.invariant.1
          (subst (λ l. Forgets (numbers_of l) inside.heads heads) c.deref.ensures.value
          c.forget_heads.ensures)),
    )
