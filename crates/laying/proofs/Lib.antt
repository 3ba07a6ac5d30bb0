-- What the proof of lay uses.
mod Laying
