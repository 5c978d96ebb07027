-- Laws of what is asked of many values, of the loop over risks, of the bytes of so many bits, and of Write's questions as the code asks them.
mod Fits
mod Opening
mod Lengths
mod Asked
