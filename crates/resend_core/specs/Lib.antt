pub mod EventLaws
pub mod EvictingBuffer
pub mod Lending
pub mod ResendStore
pub mod Ring
pub mod RtxCache
