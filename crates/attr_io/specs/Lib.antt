pub mod Bytes
pub mod FakeSink
pub mod FakeSource
pub mod Faults
pub mod VecSink
