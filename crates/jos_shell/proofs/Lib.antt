mod Bytes
mod Places
mod Reading
mod Taking
mod Whole
