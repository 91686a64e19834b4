pub mod RoundRobin
mod Reading
