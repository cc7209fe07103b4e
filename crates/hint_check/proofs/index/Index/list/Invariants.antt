use Rattle.cnf_text.specs.Literal.{literal_number}
use Rattle.hint_check.proofs.IndexChains.{Walks}
use Rattle.hint_check.proofs.index.Index.list.Given as goal

abbrev pub invariant-loop-place : goal.invariant-loop-place
invariant-loop-place l =
    Walks l.self-inside.links.items (literal_number l.fn.lit) l.initial.ids.items l.ids.items
    l.place

abbrev pub decreases-loop-place : goal.decreases-loop-place
decreases-loop-place l = l.place
