mod Alive
pub mod Counts
pub mod Emptying
pub mod Configuring
pub mod Losing
pub mod Moving
pub mod TimersArmed
pub mod Tables
pub mod SoundMarks
pub mod Marks
pub mod SoundComingUp
pub mod SoundBooting
pub mod Marked
pub mod NoneReady
pub mod BootTurns
pub mod SoundEndingFits
pub mod SoundEndingLists
pub mod SoundEnding
pub mod SoundByHand
pub mod SoundByHandTakeover
pub mod Fields
pub mod Notices
pub mod TimersFall
pub mod Requirements
pub mod ModesKept
pub mod StaysUp
pub mod StartingAll
pub mod StoppingAll
pub mod EachEvent
pub mod Scene
mod RowsRefusals
mod RowsNodes
mod RowsByHand
mod RowsEverywhere
pub mod EndLaws
