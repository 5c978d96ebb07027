-- The law of reads one after another.
mod Reading
