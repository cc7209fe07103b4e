pub mod DeviceGiven
mod LinesFilled
mod WholePieces
