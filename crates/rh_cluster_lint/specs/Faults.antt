-- How the fault of a text that is no cluster is told: the code that a check tells, and what was expected (ours).
use Rattle.std.specs.Prelude.{ℕ, List, [], ◌++◌, codes, Option, Some, None}
use Rattle.rh_terms.specs.declared.fault.TermFault.{TermFault}
use Rattle.rh_terms.specs.declared.fault.TermFault.TheVariants as terms
use Rattle.rh_cluster.specs.declared.fault.ClusterFault.{ClusterFault}
use Rattle.rh_cluster.specs.declared.fault.ClusterFault.TheVariants as fault
use Rattle.rh_findings.specs.declared.finding.Kind.TheVariants.{Error}
use Rattle.rh_findings.specs.declared.finding.Finding.{Finding}

-- the line of a fault, where it names one
abbrev pub term_line : TermFault → Option ℕ
term_line (terms.Syntax line) = Some line
term_line (terms.Unsupported line) = Some line
term_line _ = None

abbrev pub fault_line : ClusterFault → Option ℕ
fault_line (fault.Term f) = term_line f
fault_line _ = None

-- what is told of it
abbrev pub term_words : TermFault → List ℕ
term_words (terms.Syntax line) = codes "T1: syntax: what stands here can't go on: a dot, a comma or a bracket may be missing, or quotes round a name"
term_words (terms.Unsupported line) = codes "T2: unsupported: Erlang reads what stands here, but this reader doesn't: a float, a map, a binary or the like"
term_words terms.NotUtf8 = codes "T3: not_utf8: the text isn't UTF-8"
term_words terms.TooDeep = codes "T4: too_deep: more than 64 lists and tuples stand inside one another"
term_words terms.IntRange = codes "T5: int_range: an integer is beyond 64 bits"
term_words terms.OutOfMemory = codes "T6: out_of_memory"

abbrev pub fault_words : ClusterFault → List ℕ
fault_words (fault.Term f) = term_words f
fault_words fault.NoNodes = codes "C2: no_nodes: no term {node, Name, SysConfig} stands in the file"
fault_words fault.TooMany = codes "C3: too_many: there are more nodes, applications or platform names than the profile allows"
fault_words fault.DuplicateName = codes "C4: duplicate_name: two nodes, two applications, or an application and the platform have one name"
fault_words fault.UnknownName = codes "C5: unknown_name: a value names a node, an application or a dependency that the file hasn't"
fault_words fault.DuplicateInList = codes "C6: duplicate_in_list: a name stands twice in one list"
fault_words fault.DuplicateParameter = codes "C7: duplicate_parameter: a section, a parameter or a key that is read stands twice"
fault_words (fault.Mismatch node) = codes "C8: mismatch: distributed or sync_nodes_timeout differs from that of the first node that takes part, at "
fault_words fault.BootNotListed = codes "C9: boot_not_listed: a node boots a distributed application that doesn't list the node"
fault_words fault.BadValue = codes "C10: bad_value: a value has another shape than is asked for, or is out of range"
fault_words fault.BadName = codes "C11: bad_name: a name is empty, longer than 255 bytes, or has a space or a control byte"
fault_words fault.OutOfMemory = codes "C12: out_of_memory"

-- and at its end the node that it names
abbrev pub node_named : ClusterFault → List ℕ
node_named (fault.Mismatch node) = node
node_named _ = []

unfoldable pub fault_finding : ClusterFault → Finding
fault_finding f = record { line = fault_line f; kind = Error; text = fault_words f ++ node_named f; path = None }
