pub mod Decimals
pub mod Fields
pub mod Reading
pub mod FirstBad
pub mod RecordingLemmas
pub mod ReplayLemmas
pub mod Reruns
