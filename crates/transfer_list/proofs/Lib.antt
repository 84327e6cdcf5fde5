pub mod Transferring
