-- Bytes are a field, by the laws.
-- Assumes nothing.
use Rattle.byte_field.proofs.Laws.{add_comm, add_assoc, add_self, add_byte, add_zero, mul_byte, mul_comm, mul_assoc, mul_add, mul_one, mul_inv, inv_byte, quotient_mul}
use Rattle.byte_field.proofs.field.field_stands.Goals as goal

pub returns : goal.returns
returns c =
    record {
      add_closed = λ a b ha hb. add_byte a b;
      mul_closed = λ a b ha hb. mul_byte a b;
      add_commutes = λ a b ha hb. add_comm a b;
      mul_commutes = mul_comm;
      add_associates = λ a b c ha hb hc. add_assoc a b c;
      mul_associates = mul_assoc;
      distributes = λ a b c ha hb hc. mul_add a b c;
      add_neutral = add_zero;
      mul_neutral = mul_one;
      negative = λ a ha. add_self a;
      inv_closed = λ a ha some. inv_byte a;
      inverse = mul_inv;
      divides = quotient_mul;
    }
