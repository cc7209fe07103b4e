use Rattle.std.proofs.Common.{◌≡◌, ◌++◌, take}
use Rattle.std.specs.List.{flat_map}
use Rattle.node_fields.specs.Fields.{literal_field}
use Rattle.node_fields.proofs.fields.write_path.Given as goal

abbrev pub invariant-loop-lit : goal.invariant-loop-lit
invariant-loop-lit l =
    l.text.items ≡ l.initial.text.items ++ flat_map literal_field (take l.lit-index l.path)
