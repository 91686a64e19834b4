pub mod Handing
pub mod Delivery
pub mod BytesLook
pub mod BytesLoad
pub mod BytesPut
pub mod BytesReturn
