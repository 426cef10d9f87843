mod WantedLaws
mod ImportLaws
