-- The faults of a dialogue's parts as those of the program (ours).
use Rattle.rh_devices.specs.declared.fault.WriteFault.{WriteFault}
use Rattle.rh_devices.specs.declared.fault.WriteFault.TheVariants as writing
use Rattle.rh_run.specs.declared.fault.RunFault.{RunFault}
use Rattle.rh_run.specs.declared.fault.RunFault.TheVariants as end
use Rattle.rh_manner.specs.declared.fault.DialogueFault.{DialogueFault}
use Rattle.rh_manner.specs.declared.fault.DialogueFault.TheVariants as fault

-- a dialogue whose text was not written whole
abbrev pub unwritten : WriteFault → DialogueFault
unwritten writing.Failed = fault.Unsaid
unwritten writing.OutOfMemory = fault.OutOfMemory

-- how the program ends
abbrev pub dialogue_fault : DialogueFault → RunFault
dialogue_fault fault.Unheard = end.Read
dialogue_fault fault.TooLong = end.Read
dialogue_fault fault.Unsaid = end.Write
dialogue_fault fault.OutOfMemory = end.OutOfMemory
