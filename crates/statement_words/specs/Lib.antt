pub mod LineReaders
