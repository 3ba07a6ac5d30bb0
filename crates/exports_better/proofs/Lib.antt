-- What the proof of the exported words uses.
mod Words
