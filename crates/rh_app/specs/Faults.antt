-- The faults of sessions as those of the program (ours).
use Rattle.rh_run.specs.declared.fault.RunFault.{RunFault}
use Rattle.rh_run.specs.declared.fault.RunFault.TheVariants as end
use Rattle.rh_run.specs.Faults.{writing_fault}
use Rattle.rh_devices.specs.declared.fault.WriteFault.TheVariants as writing
use Rattle.rh_app.specs.declared.fault.HistoryFault.{HistoryFault}
use Rattle.rh_app.specs.declared.fault.HistoryFault.TheVariants as history
use Rattle.rh_app.specs.declared.fault.SessionsFault.{SessionsFault}
use Rattle.rh_app.specs.declared.fault.SessionsFault.TheVariants as sessions

-- sessions whose threads gave no history
abbrev pub history_fault : HistoryFault → SessionsFault
history_fault history.Room = sessions.Room
history_fault history.OutOfMemory = sessions.Write writing.OutOfMemory

-- and whose text was not written whole
abbrev pub sessions_fault : SessionsFault → RunFault
sessions_fault sessions.Room = end.Room
sessions_fault (sessions.Write f) = writing_fault f
