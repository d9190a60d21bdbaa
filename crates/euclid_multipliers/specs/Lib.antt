pub mod StepsInBuffer
