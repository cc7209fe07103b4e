-- The faults of an iCNF text and of its cubes as faults of a bundle.
use Rattle.case_core.specs.declared.fault.CaseFault.{CaseFault}
use Rattle.case_core.specs.declared.fault.CaseFault.TheVariants as bundle
use Rattle.cnf_text.specs.declared.icnf.TextFault.{TextFault}
use Rattle.cnf_text.specs.declared.icnf.TextFault.TheVariants as text
use Rattle.split_tree.specs.declared.clash.TreeFault.{TreeFault}
use Rattle.split_tree.specs.declared.clash.TreeFault.TheVariants as clash

abbrev pub of_text : TextFault → CaseFault
of_text text.Header = bundle.Header
of_text (text.Token line) = bundle.Token line
of_text text.Unfinished = bundle.Unfinished
of_text (text.TooLarge line) = bundle.TooLarge line
of_text text.Limit = bundle.Limit
of_text text.Memory = bundle.Memory

abbrev pub of_clash : TreeFault → CaseFault
of_clash (clash.Repeats cube) = bundle.Repeats cube
of_clash (clash.NotATree first second) = bundle.NotATree first second
of_clash (clash.Overlap first second) = bundle.Overlap first second
of_clash clash.Memory = bundle.Memory
