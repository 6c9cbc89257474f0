pub mod SameExchanges
pub mod SameSteps
pub mod SameTrace
pub mod RecordedCalls
pub mod RecordedTrace
pub mod LoopCalls
pub mod KeptRefusals
