pub mod HintOrders
pub mod HintMoves
pub mod HintHistories
