-- What holds of the values that a parser gives, whatever it reads.
use Rattle.std.proofs.Common.{◌≡◌, refl, subst, ℕ, ◌≤◌, Bool, true, false, cond, Option, Some, None, Ok, Err, nat_le, arith, tests}
use Rattle.std.proofs.lemmas.Option.{cond_some}
use Rattle.idl_tokens.specs.Classes.{Text}
use Rattle.idl_tokens.specs.Numerals.{unsigned_in, magnitude}
use Rattle.idl_input.specs.Words.{is_keyword}
use Rattle.idl_input.specs.declared.faults.IdlFault.{IdlFault}
use Rattle.idl_input.specs.Input.{Input, Outcome, Parser, ◌>>=◌, ◌>>◌, pure, and_then, syntax, refuse, eat, name, bound, or_syntax, spelling, sees_name, sees_number}
use Rattle.std.proofs.lemmas.Bool.{and_parts, not-true}

-- each value that is given has the property
abbrev pub Gives : {A : Type 0} → Parser A → (A → Type 0) → Type 0
Gives {A} p P = (i j : Input) (a : A) → p i ≡ Ok (a, j) → P a

-- ---- the same, of outcomes

abbrev Holds : {A : Type 0} → (A → Type 0) → Outcome A → Type 0
Holds P (Ok p) = P p.0
Holds P (Err e) = Unit {0}

-- The same as a record, whose parts are found from it.
pub record Yields {A : Type 0} (p : Parser A) (P : A → Type 0) : Type 0 where
  at : (i : Input) → Holds P (p i)

pub gives : {A : Type 0} {p : Parser A} {P : A → Type 0} → Yields p P → Gives p P
gives {A} {p} {P} yields i j a e = subst (λ o. Holds P o) e (yields.at i)

outcome_holds : {A : Type 0} (p : Parser A) (P : A → Type 0) → Gives p P → (i : Input) (o : Outcome A) → p i ≡ o → Holds P o
outcome_holds p P all i (Ok (a, j)) e = all i j a e
outcome_holds p P all i (Err f) e = tt

pub yields : {A : Type 0} {p : Parser A} {P : A → Type 0} → Gives p P → Yields p P
yields {A} {p} {P} all = record { at = λ i. outcome_holds p P all i (p i) refl }

-- ---- steps

bound_holds : {A B : Type 0} (P : A → Type 0) (Q : B → Type 0) (o : Outcome A) (f : A → Parser B) → Holds P o → ((a : A) → P a → (j : Input) → Holds Q (f a j)) → Holds Q (and_then o f)
bound_holds P Q (Ok p) f first second = second p.0 first p.1
bound_holds P Q (Err e) f first second = tt

-- one after the other
pub bind : {A B : Type 0} {p : Parser A} {f : A → Parser B} {P : A → Type 0} {Q : B → Type 0} → Yields p P → ((a : A) → P a → Yields (f a) Q) → Yields (p >>= f) Q
bind {A} {B} {p} {f} {P} {Q} first second = record { at = λ i. bound_holds P Q (p i) f (first.at i) (λ a holds. (second a holds).at) }

kept_holds : {A : Type 0} (P Q : A → Type 0) (o : Outcome A) → Holds P o → ((a : A) → P a → Q a) → Holds Q o
kept_holds P Q (Ok p) holds more = more p.0 holds
kept_holds P Q (Err e) holds more = tt

holds_any : {A : Type 0} (o : Outcome A) → Holds (λ _. Unit {0}) o
holds_any (Ok p) = tt
holds_any (Err e) = tt

-- nothing is said of the value
pub any : {A : Type 0} (p : Parser A) → Yields p (λ _. Unit {0})
any p = record { at = λ i. holds_any (p i) }

-- whatever is read first
pub behind : {A B : Type 0} (p : Parser A) {f : A → Parser B} {Q : B → Type 0} → ((a : A) → Yields (f a) Q) → Yields (p >>= f) Q
behind p second = bind (any p) (λ a _. second a)

pub next : {A B : Type 0} (p : Parser A) {q : Parser B} {Q : B → Type 0} → Yields q Q → Yields (p >> q) Q
next p second = bind (any p) (λ _ _. second)

pub given : {A : Type 0} {P : A → Type 0} {a : A} → P a → Yields (pure a) P
given holds = record { at = λ i. holds }

-- nothing is given
pub fails : {A : Type 0} {P : A → Type 0} {e : Input → IdlFault} → Yields {A = A} (λ i. Err (e i)) P
fails = record { at = λ i. tt }

pub refused : {A : Type 0} {P : A → Type 0} {e : IdlFault} → Yields (refuse {A = A} e) P
refused = record { at = λ i. tt }

pub unread : {A : Type 0} {P : A → Type 0} → Yields (syntax {A = A}) P
unread = record { at = λ i. tt }

pub kept : {A : Type 0} {p : Parser A} {P Q : A → Type 0} → Yields p P → ((a : A) → P a → Q a) → Yields p Q
kept {A} {p} {P} {Q} first more = record { at = λ i. kept_holds P Q (p i) (first.at i) more }

pub either : {A : Type 0} {P : A → Type 0} (b : Bool) {p q : Parser A} → Yields p P → Yields q P → Yields (cond b p q) P
either true first second = first
either false first second = second

-- ---- at one input

pub by_input : {A : Type 0} {p : Parser A} {P : A → Type 0} → ((i : Input) → Yields (λ _. p i) P) → Yields p P
by_input each = record { at = λ i. (each i).at i }

pub at_input : {A : Type 0} {p : Parser A} {P : A → Type 0} → Yields p P → (i : Input) → Yields (λ _. p i) P
at_input whole i = record { at = λ _. whole.at i }

pub read : {A : Type 0} {P : A → Type 0} {a : A} {j : Input} → P a → Yields (λ _. Ok (a, j)) P
read holds = record { at = λ _. holds }

-- a value where a test holds, and else a fault
pub tested : {A : Type 0} {P : A → Type 0} (b : Bool) {o r : Outcome A} → (b ≡ true → Yields (λ _. o) P) → (b ≡ false → Yields (λ _. r) P) → Yields (λ _. cond b o r) P
tested true first second = first refl
tested false first second = second refl

-- where a word or mark comes, or else
pub if_eaten : {A : Type 0} (s : Text) {p q : Parser A} {P : A → Type 0} → Yields p P → Yields q P → Yields (eat s >>= λ b. cond b p q) P
if_eaten s {p} {q} first second = behind (eat s) {f = λ b. cond b p q} (λ b. either b first second)

pub pure_gives : {A : Type 0} (a : A) (P : A → Type 0) → P a → Gives (pure a) P
pure_gives a P holds = gives (given {P = P} holds)

pub bind_gives : {A B : Type 0} (p : Parser A) (f : A → Parser B) (P : A → Type 0) (Q : B → Type 0) → Gives p P → ((a : A) → P a → Gives (f a) Q) → Gives (p >>= f) Q
bind_gives p f P Q first second = gives (bind {P = P} {Q = Q} (yields first) (λ a holds. yields (second a holds)))

-- ---- names and bounds

free_name : (i : Input) → sees_name i ≡ true → is_keyword (spelling i) ≡ false
unfolding sees_name
free_name i e = not-true _ (and_parts _ _ e).1

-- a name is no keyword
pub name_yields : Yields name (λ s. is_keyword s ≡ false)
unfolding name
name_yields = by_input (λ i. tested (sees_name i) (λ e. record { at = λ _. free_name i e }) (λ _. record { at = λ _. tt }))

pub or_syntax_yields : {A : Type 0} (o : Option A) (P : A → Type 0) → ((a : A) → o ≡ Some a → P a) → Yields (or_syntax o) P
or_syntax_yields (Some a) P all = record { at = λ i. all a refl }
or_syntax_yields None P all = record { at = λ i. tt }

at_most : (n high : ℕ) → nat_le n high ≡ true → n ≤ high
at_most n high e = grind (arith, tests)

pub unsigned_in_range : (low high : ℕ) (s : Text) (n : ℕ) → unsigned_in low high s ≡ Some n → n ≤ high
unfolding unsigned_in
unsigned_in_range low high s n e =
    let through = cond_some _ (magnitude s) n e in
    subst (λ k. k ≤ high) through.1 (at_most (magnitude s) high (and_parts _ _ through.0).1)

-- a bound has 32 bits
pub bound_yields : Yields bound (λ n. n ≤ 4294967295)
unfolding bound
bound_yields = by_input (λ i. tested (sees_number i) (λ _. at_input (or_syntax_yields _ (λ n. n ≤ 4294967295) (unsigned_in_range 1 4294967295 (spelling i))) i) (λ _. record { at = λ _. tt }))
