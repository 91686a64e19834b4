pub mod CacheWords
