pub mod ZeroSecond
pub mod BezoutJoined
