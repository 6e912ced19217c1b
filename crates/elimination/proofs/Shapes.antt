-- Matrices of the same shape: what is said of the one's rows and columns is said of the other's.
use Rattle.std.proofs.Common.{ℕ, ◌∙◌, subst₂}
use Rattle.elimination.specs.declared.matrix.Matrix.{Matrix}
use Rattle.elimination.specs.Shape.{SameShape}

pub same_shape : {a b c : Matrix} → SameShape a b → SameShape b c → SameShape a c
same_shape s t = record { rows = t.rows ∙ s.rows; width = t.width ∙ s.width }

pub of_first : (P : ℕ → ℕ → Type 0) {a b : Matrix} → SameShape a b → P b.rows b.width → P a.rows a.width
of_first P s h = subst₂ P s.rows s.width h
