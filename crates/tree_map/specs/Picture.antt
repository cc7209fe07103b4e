-- The picture of a tree by the marks of its nodes, as SVG, as bytes. The root's cell is 2048 wide,
-- a
-- branch's cell half as wide as its node's, in the row below it. A cell's level is how many rows
-- there are below its own: 11 at the root. At level 0 one cell stands for all nodes of its subtree.
-- No byte of a cell needs an escape in XML: the texts have letters, digits, spaces and minus signs.
use Rattle.std.specs.Prelude.{ℕ, zero, suc, ◌+◌, ◌-◌, ◌*◌, ◌/◌, ◌%◌, ◌^◌, ◌||◌, max, Bool}
use Rattle.std.specs.Prelude.{true, false, List, [], ◌++◌, codes, decimal, if◌then◌else◌}
use Rattle.std.specs.List.{flat_map}
use Rattle.std.specs.Int.{div_ceil}
use Rattle.split_tree.specs.SplitTree.{SplitTree, missing, cube, split, size, total, path_at}
use Rattle.case_core.specs.Case.{CaseOf}
use Rattle.mark_board.specs.declared.mark.Mark.{Mark}
use Rattle.mark_board.specs.declared.mark.Mark.TheVariants.{Open, Refuted, Rejected}
use Rattle.mark_board.specs.Marking.{marked, open_weight, wholly_open, mark_at, refuted_by}
use Rattle.mark_board.specs.TopPlaces.{worth_of}
use Rattle.node_fields.specs.Fields.{number_field, literal_field, status_fields, answer_line}

-- an attribute: its name with what opens it, its number, and what closes it
unfoldable pub attribute : List ℕ → ℕ → List ℕ
attribute name number = name ++ decimal number ++ codes "\""

-- where a rectangle lies: its left edge, its upper edge and its width
unfoldable pub edges : ℕ → ℕ → ℕ → List ℕ
edges left top width =
    attribute (codes " x=\"") left ++ attribute (codes " y=\"") top
    ++ attribute (codes " width=\"") width ++ codes " height=\"22\">"

-- a rectangle of a class and the one behind it, which has to be closed
unfoldable pub rectangle : List ℕ → List ℕ → ℕ → ℕ → ℕ → List ℕ
rectangle class second left top width =
    codes "<rect class=\"" ++ class ++ second ++ codes "\"" ++ edges left top width

-- ---- the cell of a node

abbrev pub is_rejected : Mark → Bool
is_rejected Open = false
is_rejected Refuted = false
is_rejected (Rejected step reason) = true

-- the proof of one of so many nodes, from this one on, is rejected
abbrev pub one_rejected : List Mark → ℕ → ℕ → Bool
one_rejected marks node zero = false
one_rejected marks node (suc count) =
    is_rejected (mark_at marks node) || one_rejected marks (suc node) count

-- for how many nodes a cell of this level stands
abbrev pub nodes_shown : ℕ → SplitTree → ℕ
nodes_shown zero tree = size tree
nodes_shown (suc level) tree = 1

-- the class of a cell by its color: marked, under a marked node, rejected, wholly open, or open in
-- part
abbrev pub color : List Mark → ℕ → ℕ → Bool → SplitTree → List ℕ
color marks level node covered tree =
    if marked (refuted_by marks) node tree then codes "r"
    else (if covered then codes "c"
    else (if one_rejected marks node (nodes_shown level tree) then codes "x"
    else (if wholly_open (refuted_by marks) node tree then codes "o" else codes "p")))

-- and another class for an inner node that has a mark of its own: by the marks of a case's findings
-- these are the ones that have a section
abbrev pub frame_by : Mark → List ℕ
frame_by Open = []
frame_by Refuted = codes " n"
frame_by (Rejected step reason) = codes " n"

abbrev pub frame : List Mark → ℕ → SplitTree → List ℕ
frame marks node missing = []
frame marks node (cube k) = []
frame marks node (split v positive negative) = frame_by (mark_at marks node)

abbrev pub path_fields : SplitTree → ℕ → List ℕ
path_fields tree node = flat_map literal_field (path_at tree node) ++ codes " 0"

-- the status of an inner node by a proof of its own, if it has been judged
abbrev pub own_status : Mark → List ℕ
own_status Open = []
own_status Refuted = status_fields Refuted
own_status (Rejected step reason) = status_fields (Rejected step reason)

-- what is told of a node: its name, its status and, of an inner node, the open weight under it
abbrev pub told : CaseOf → List Mark → ℕ → SplitTree → List ℕ
told case marks node missing =
    codes "m" ++ path_fields case.tree node ++ status_fields (mark_at marks node)
told case marks node (cube k) =
    codes "a" ++ number_field k ++ status_fields (mark_at marks node)
told case marks node (split v positive negative) =
    codes "n" ++ path_fields case.tree node ++ own_status (mark_at marks node) ++ codes " w"
    ++ number_field
    (open_weight (worth_of case.tree) (refuted_by marks) node (split v positive negative))

unfoldable pub cell : CaseOf → List Mark → ℕ → ℕ → ℕ → Bool → SplitTree → List ℕ
cell case marks level left node covered tree =
    rectangle (color marks level node covered tree) (frame marks node tree) left
    (40 + 24 * (11 - level)) (2 ^ level)
    ++ codes "<title>" ++ told case marks node tree ++ codes "</title></rect>\n"

-- the cells of a node and of those below it, down to level 0
abbrev pub cells : CaseOf → List Mark → ℕ → ℕ → ℕ → Bool → SplitTree → List ℕ
cells case marks zero left node covered tree = cell case marks zero left node covered tree
cells case marks (suc level) left node covered missing =
    cell case marks (suc level) left node covered missing
cells case marks (suc level) left node covered (cube k) =
    cell case marks (suc level) left node covered (cube k)
cells case marks (suc level) left node covered (split v positive negative) =
    cell case marks (suc level) left node covered (split v positive negative)
    ++ cells case marks level left (suc node)
    (covered || marked (refuted_by marks) node (split v positive negative)) positive
    ++ cells case marks level (left + 2 ^ level) (suc (node + size positive))
    (covered || marked (refuted_by marks) node (split v positive negative)) negative

-- how many rows these cells take
abbrev pub rows : ℕ → SplitTree → ℕ
rows zero tree = 1
rows (suc level) missing = 1
rows (suc level) (cube k) = 1
rows (suc level) (split v positive negative) = suc (max (rows level positive) (rows level negative))

-- ---- the whole picture

-- its colors: cells that are narrower than 4 have no edge, which would hide them
abbrev pub style : List ℕ
style =
    codes ">\n<style>text{font:18px sans-serif}"
    ++ codes "rect{fill:#FFFFFF;stroke:#FFFFFF;stroke-width:0.2}"
    ++ codes "rect[width=\"1\"],rect[width=\"2\"]{stroke-width:0}"
    ++ codes ".c{fill:#BBBBBB}.r{fill:#0072B2}.x{fill:#D55E00}.o{fill:#F0E442}.p{fill:#56B4E9}"
    ++ codes "rect.n{stroke:#000000;stroke-width:2}</style>\n"

-- its size, as high as it has rows, and its colors
unfoldable pub head : ℕ → List ℕ
head height =
    codes "<svg xmlns=\"http://www.w3.org/2000/svg\""
    ++ attribute (codes " viewBox=\"0 0 2048 ") height
    ++ codes " width=\"2048\"" ++ attribute (codes " height=\"") height ++ style

-- a word of the first line
unfoldable pub word_at : ℕ → List ℕ → List ℕ
word_at left word =
    codes "<text" ++ attribute (codes " x=\"") left ++ codes " y=\"26\">" ++ word
    ++ codes "</text>\n"

-- an entry of the legend: a rectangle of this class, and the word behind it
unfoldable pub key : List ℕ → ℕ → List ℕ → List ℕ
key class left word =
    rectangle class [] left 8 22 ++ codes "</rect>" ++ word_at (left + 30) word

unfoldable pub legend : List ℕ
legend =
    key (codes "r") 760 (codes "refuted") ++ key (codes "x") 900 (codes "rejected")
    ++ key (codes "o") 1050 (codes "open") ++ key (codes "p") 1170 (codes "partly open")
    ++ key (codes "c") 1350 (codes "under a refuted node")
    ++ key (codes "n") 1620 (codes "own proof")

-- how many tenths of a per cent of the whole weight are open, rounded up: 0 only where none is
abbrev pub open_tenths : ℕ → ℕ → ℕ
open_tenths open_under whole = div_ceil (1000 * open_under) whole

unfoldable pub per_cent : ℕ → List ℕ
per_cent tenths = decimal (tenths / 10) ++ codes "." ++ decimal (tenths % 10) ++ codes " % open, w"

-- how much of the whole weight is open
unfoldable pub weights : ℕ → ℕ → List ℕ
weights open_under whole =
    codes "<text x=\"130\" y=\"26\">" ++ per_cent (open_tenths open_under whole)
    ++ number_field open_under ++ codes " of" ++ number_field whole ++ codes "</text>\n"

-- the answer and the weights, each in a text of its own
unfoldable pub title : Bool → ℕ → ℕ → List ℕ
title refuted open_under whole =
    codes "<text x=\"8\" y=\"26\">" ++ answer_line refuted ++ codes "</text>\n"
    ++ weights open_under whole

-- the picture of a case whose nodes have these marks
abbrev pub map_text : CaseOf → List Mark → List ℕ
map_text case marks =
    head (42 + 24 * rows 11 case.tree) ++ legend
    ++ title (marked (refuted_by marks) 0 case.tree)
    (open_weight (worth_of case.tree) (refuted_by marks) 0 case.tree) (total 0 case.tree)
    ++ cells case marks 11 0 0 false case.tree ++ codes "</svg>\n"
