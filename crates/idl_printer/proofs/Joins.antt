-- Pieces that are appended one after another are one list behind what was there.
use Rattle.std.proofs.Common.{◌≡◌, ℕ, List, ◌++◌, append_assoc, append-nil, ◌∙◌, ap, Result, Ok, Err, OnOk}

pub ruleset joins = (append_assoc, append-nil)

pub on_ok : {A E P Q : Type 0} (r : Result A E) → (P → Q) → OnOk r P → OnOk r Q
on_ok (Ok a) f p = f p
on_ok (Err e) f p = p

pub two : (o a b n1 n2 : List ℕ) → n1 ≡ o ++ a → n2 ≡ n1 ++ b → n2 ≡ o ++ (a ++ b)
two o a b n1 n2 e1 e2 = e2 ∙ ap (λ z. z ++ b) e1 ∙ append_assoc o a b

pub three : (o a b c n1 n2 n3 : List ℕ) → n1 ≡ o ++ a → n2 ≡ n1 ++ b → n3 ≡ n2 ++ c → n3 ≡ o ++ (a ++ b ++ c)
three o a b c n1 n2 n3 e1 e2 e3 = two o (a ++ b) c n2 n3 (two o a b n1 n2 e1 e2) e3

pub four : (o a b c d n1 n2 n3 n4 : List ℕ) → n1 ≡ o ++ a → n2 ≡ n1 ++ b → n3 ≡ n2 ++ c → n4 ≡ n3 ++ d → n4 ≡ o ++ (a ++ b ++ c ++ d)
four o a b c d n1 n2 n3 n4 e1 e2 e3 e4 = two o (a ++ b ++ c) d n3 n4 (three o a b c n1 n2 n3 e1 e2 e3) e4

pub five : (o a b c d e n1 n2 n3 n4 n5 : List ℕ) → n1 ≡ o ++ a → n2 ≡ n1 ++ b → n3 ≡ n2 ++ c → n4 ≡ n3 ++ d → n5 ≡ n4 ++ e → n5 ≡ o ++ (a ++ b ++ c ++ d ++ e)
five o a b c d e n1 n2 n3 n4 n5 e1 e2 e3 e4 e5 = two o (a ++ b ++ c ++ d) e n4 n5 (four o a b c d n1 n2 n3 n4 e1 e2 e3 e4) e5

pub six : (o a b c d e f n1 n2 n3 n4 n5 n6 : List ℕ) → n1 ≡ o ++ a → n2 ≡ n1 ++ b → n3 ≡ n2 ++ c → n4 ≡ n3 ++ d → n5 ≡ n4 ++ e → n6 ≡ n5 ++ f
    → n6 ≡ o ++ (a ++ b ++ c ++ d ++ e ++ f)
six o a b c d e f n1 n2 n3 n4 n5 n6 e1 e2 e3 e4 e5 e6 = two o (a ++ b ++ c ++ d ++ e) f n5 n6 (five o a b c d e n1 n2 n3 n4 n5 e1 e2 e3 e4 e5) e6
