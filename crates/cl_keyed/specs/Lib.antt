pub mod Digests
