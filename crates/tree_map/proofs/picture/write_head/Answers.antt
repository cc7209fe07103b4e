use Rattle.tree_map.specs.Picture.{head}
use Rattle.tree_map.proofs.PictureTexts.{five_appended}
use Rattle.tree_map.proofs.picture.write_head.Goals as goal

pub returns : goal.returns
unfolding head
returns c =
    five_appended c.args.text.now.items _ _ _ _ _ _ _ _ _ _
    c.in_ok-extend_from_slice.ensures.items c.in_ok-write_attribute.ensures
    c.in_ok-extend_from_slice-2.ensures.items c.in_ok-write_attribute-2.ensures
    (rw c.style.ensures at c.in_ok-extend_from_slice-3.ensures.items)
