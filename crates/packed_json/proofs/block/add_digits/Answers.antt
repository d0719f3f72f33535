use Rattle.std.proofs.Common.{◌∙◌, ◌+◌, ◌/◌, ◌%◌, ◌++◌, [], ◌∷◌, append_assoc, arith}
use Rattle.json_values.proofs.Digits.{one_digit, two_digits, three_digits}
use Rattle.packed_json.proofs.block.add_digits.Goals as goal

pub returns-then-octet-lt10 : goal.returns-then-octet-lt10
returns-then-octet-lt10 c = rw (← one_digit c.args.octet c.if-octet-lt10.true) c.add.ensures

pub returns-then-octet-lt100 : goal.returns-then-octet-lt100
returns-then-octet-lt100 c =
    let n = c.args.octet in
    rw (← two_digits n c.if-octet-lt10.false c.if-octet-lt100.true, c.add-then-octet-lt100-2.ensures, c.add-then-octet-lt100.ensures) (append_assoc c.args.block.now ((48 + n / 10 % 10) ∷ []) ((48 + n % 10) ∷ []))

pub returns : goal.returns
returns c =
    let n = c.args.octet in
    let h = (48 + n / 100) ∷ [] in
    let m = (48 + n / 10 % 10) ∷ [] in
    let l = (48 + n % 10) ∷ [] in
    rw (← three_digits n c.if-octet-lt100.false (omega arith), c.add-4.ensures, c.add-3.ensures, c.add-2.ensures) (append_assoc (c.args.block.now ++ h) m l ∙ append_assoc c.args.block.now h (m ++ l))
