pub mod Determinism
pub mod RecordedRun
