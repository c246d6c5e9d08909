pub mod LiveVoices
