use Rattle.std.proofs.Common.{◌∷◌, [], ◌++◌, sym, ap, ◌∙◌, subst}
use Rattle.std.proofs.Common.{append_assoc}
use Rattle.hint_check.specs.Inner.Blocks.{clause_of, with_block, BlockWithin, Within}
use Rattle.std.proofs.lemmas.List.Elements.{All-push}
use Rattle.hint_check.proofs.BlockRuns.{clause_of-push, Within-more}
use Rattle.hint_check.proofs.block.push_clause.Goals as goal

pub returns-in_err-push-clause-within : goal.returns-in_err-push-clause-within
returns-in_err-push-clause-within c h =
    subst (λ blocks. Within blocks c.reach.result) (sym c.in_err-push.ensures.items)
    (Within-more c.loop-rest.blocks.items c.loop-rest.reach c.reach.result c.reach.ensures.more
    (c.loop-rest.invariant.within h))

pub loop-rest-preserved : goal.loop-rest-preserved
loop-rest-preserved c =
    let grown = c.loop-rest.invariant.grown in
    let b = c.block_of-block.result in
    record {
      grown = (
        grown.0 ++ b ∷ [],
        c.in_ok-push.ensures.items ∙ ap (λ all. all ++ b ∷ []) grown.1
            ∙ append_assoc c.args.blocks.now.items grown.0 (b ∷ []),
        clause_of-push grown.0 b c.behind_block-rest.result.now
            ∙ ap (λ rest. clause_of grown.0 ++ with_block b rest) c.behind_block-rest.ensures
            ∙ ap (λ ls. clause_of grown.0 ++ ls) c.block_of-block.ensures ∙ grown.2,
      );
      within = λ h.
          subst (λ blocks. Within blocks c.reach.result) (sym c.in_ok-push.ensures.items)
          (All-push (λ block. BlockWithin block c.reach.result) c.loop-rest.blocks.items b
          (Within-more c.loop-rest.blocks.items c.loop-rest.reach c.reach.result
          c.reach.ensures.more (c.loop-rest.invariant.within h))
          c.reach.ensures.within);
    }
