use Rattle.json_values.proofs.Digits.{decimal_is_text, decimal_is_number}
use Rattle.json_values.proofs.write.write_digits.Goals as goal

pub text_of-requires : goal.text_of-requires
text_of-requires c = decimal_is_text c.args.digits.now c.requires.0 c.requires.1 c.requires.2

pub number-requires : goal.number-requires
number-requires c = rw c.text_of.ensures (decimal_is_number c.args.digits.now c.requires.0 c.requires.1 c.requires.2)
