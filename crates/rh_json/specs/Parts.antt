-- The texts of other programs as parts of a sweep's (ours).
use Rattle.std.specs.Prelude.{Result, Ok, Err}
use Rattle.rh_devices.specs.declared.fault.WriteFault.{WriteFault}
use Rattle.rh_devices.specs.declared.fault.WriteFault.TheVariants as writing
use Rattle.rh_run.specs.declared.fault.RunFault.{RunFault}
use Rattle.rh_run.specs.declared.fault.RunFault.TheVariants as end

-- whether the text of a program was written whole
abbrev pub part_ended : Result (Unit {0}) RunFault → Result (Unit {0}) WriteFault
part_ended (Ok x) = Ok x
part_ended (Err end.Write) = Err writing.Failed
part_ended (Err end.OutOfMemory) = Err writing.OutOfMemory
part_ended (Err (end.Cluster f)) = Ok tt
part_ended (Err (end.BadLine k)) = Ok tt
part_ended (Err end.Read) = Ok tt
part_ended (Err (end.Sweep f)) = Ok tt
part_ended (Err end.Room) = Ok tt
part_ended (Err end.Refused) = Ok tt
part_ended (Err end.Differs) = Ok tt
part_ended (Err end.Unfinished) = Ok tt
