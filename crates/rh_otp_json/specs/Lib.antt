pub mod LiveJson
