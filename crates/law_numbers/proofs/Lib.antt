pub mod JoinedExists
pub mod KindExists
