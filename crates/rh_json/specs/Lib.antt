pub mod RunJson
pub mod CheckJson
pub mod Laws
pub mod Base
pub mod Parts
pub mod SweepJson
pub mod SweepLaws
