pub mod PairLengthsAsked
