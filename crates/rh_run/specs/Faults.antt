-- The faults of a program's parts as those of the program (ours).
use Rattle.std.specs.Prelude.{Option, Some, None, Result, Ok, Err}
use Rattle.rh_run.specs.declared.fault.RunFault.{RunFault}
use Rattle.rh_run.specs.declared.fault.RunFault.TheVariants as end
use Rattle.rh_run.specs.declared.fault.Told.{Told}
use Rattle.rh_run.specs.declared.fault.Told.TheVariants as told
use Rattle.rh_devices.specs.declared.fault.ReadFault.{ReadFault}
use Rattle.rh_devices.specs.declared.fault.ReadFault.TheVariants as reading
use Rattle.rh_devices.specs.declared.fault.WriteFault.{WriteFault}
use Rattle.rh_devices.specs.declared.fault.WriteFault.TheVariants as writing

-- how a program ends whose text was written whole, by the fault that the text tells at its end
abbrev pub ended : Option Told → Result (Unit {0}) RunFault
ended None = Ok tt
ended (Some (told.Cluster f)) = Err (end.Cluster f)
ended (Some (told.BadLine k)) = Err (end.BadLine k)
ended (Some (told.Sweep f)) = Err (end.Sweep f)
ended (Some told.Refused) = Err end.Refused
ended (Some told.Differs) = Err end.Differs
ended (Some told.Unfinished) = Err end.Unfinished

-- a program whose input was not read
abbrev pub reading_fault : ReadFault → RunFault
reading_fault reading.Failed = end.Read
reading_fault reading.TooLong = end.Read
reading_fault reading.OutOfMemory = end.OutOfMemory

-- one whose text was not written whole
abbrev pub writing_fault : WriteFault → RunFault
writing_fault writing.Failed = end.Write
writing_fault writing.OutOfMemory = end.OutOfMemory
