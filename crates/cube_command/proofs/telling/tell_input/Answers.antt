use Rattle.std.proofs.Common.{◌∙◌, List, ℕ, inl, subst, sym}
use Rattle.cube_command.specs.Program.{IsLineWritten}
use Rattle.cube_command.proofs.telling.tell_input.Goals as goal

pub tell-requires-clause-line : goal.tell-requires-clause-line
tell-requires-clause-line g c =
    subst (g.E.Sink.allows c.args.errors.now) (sym (c.as_bytes.ensures.value ∙ c.in-Ok.ensures))
    c.requires.fault

pub returns-in-Ok : goal.returns-in-Ok
returns-in-Ok g c = record {
  told = inl (
    c.status_of.ensures,
    subst
        (λ (line : List ℕ).
        IsLineWritten (g.E.Sink.contents c.args.errors.now) (g.E.Sink.contents c.tell.new.errors)
        (g.E.Sink.failures c.args.errors.now) (g.E.Sink.failures c.tell.new.errors) line)
        (c.as_bytes.ensures.value ∙ c.in-Ok.ensures) c.tell.ensures,
  );
}
