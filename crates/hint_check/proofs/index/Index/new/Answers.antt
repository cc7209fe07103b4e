use Rattle.std.proofs.Common.{[], sym, subst}
use Rattle.hint_check.specs.Inner.Index.{LeadBack, NotesLast}
use Rattle.hint_check.proofs.IndexChains.{LeadBack-none, NotesLast-none}
use Rattle.hint_check.proofs.index.Index.new.Goals as goal

pub invariant_of-result : goal.invariant_of-result
invariant_of-result c =
    let links = sym c.new.ensures.items in (
      subst LeadBack links LeadBack-none,
      subst (λ l. NotesLast l c.new-2.result) links
          (subst (NotesLast []) (sym c.new-2.ensures) NotesLast-none),
    )
