use Rattle.tree_map.specs.Picture.{weights}
use Rattle.tree_map.proofs.PictureTexts.{six_appended}
use Rattle.tree_map.proofs.picture.write_weights.Goals as goal

pub returns : goal.returns
unfolding weights
returns c =
    six_appended c.args.text.now.items _ _ _ _ _ _ _ _ _ _ _ _
    c.in_ok-extend_from_slice.ensures.items
    (rw c.open_tenths.ensures at c.in_ok-write_per_cent.ensures) c.in_ok-write_number.ensures
    c.in_ok-extend_from_slice-2.ensures.items c.in_ok-write_number-2.ensures
    c.in_ok-extend_from_slice-3.ensures.items
