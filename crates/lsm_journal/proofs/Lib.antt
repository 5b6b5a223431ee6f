mod DroppedRanges
mod Telling
mod Compacting
mod KeptReads
mod Rotated
