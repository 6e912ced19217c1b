-- Rows that hold, one after the other.
-- Assumes nothing.
infixr 20 ◌⨾◌
pub ◌⨾◌ : {A B : Type 0} → A → B → A × B
row ⨾ others = (row, others)
