-- That the depth of `instances` is no 0.
use Rattle.std.proofs.Common.{◌≡◌, ℕ, ◌≤◌, List, [], ◌∷◌, Bool, true, false, if◌then◌else◌, ◌==◌, None, Some, refl, subst, arith}
use Rattle.std.proofs.lemmas.Bool.{eqb-false}
use Rattle.std.specs.Prelude.{IfSome, codes, length}
use Rattle.std.specs.Option.{option_map}
use Rattle.std.specs.Str.{bytes_eq}
use Rattle.std.specs.declared.option.Option.{Option}
use Rattle.tool_words.specs.Words.{Pair, Command, compile, judge, read, write, convert, show, wrap, instances, keep, replay, make, compare, with, alone, reference, rep_of, kind_word, pair_of, pair_words, policy_of, number_below, long_number, depth_of, convert_words, write_words, wrap_words, instances_words, record_words, replay_words, make_words, compare_words, command_by, command_of}

-- a depth is no 0
abbrev pub HasDepth : Command → Type 0
HasDepth (instances pair depth) = 1 ≤ depth
HasDepth compile = Unit {0}
HasDepth (judge pair) = Unit {0}
HasDepth (read pair) = Unit {0}
HasDepth (write r rep) = Unit {0}
HasDepth (convert pair to) = Unit {0}
HasDepth show = Unit {0}
HasDepth (wrap kind) = Unit {0}
HasDepth (keep r rep) = Unit {0}
HasDepth (replay r) = Unit {0}
HasDepth (make seed count) = Unit {0}
HasDepth (compare rep policy) = Unit {0}

abbrev AskSome : Option Command → Type 0
AskSome asked = IfSome asked HasDepth

either : (b : Bool) (x y : Option Command) → AskSome x → AskSome y → AskSome (if b then x else y)
either true x y p q = p
either false x y p q = q

mapped : {A : Type 0} (f : A → Command) → ((a : A) → HasDepth (f a)) → (x : Option A) → AskSome (option_map f x)
mapped f law None = tt
mapped f law (Some a) = law a

behind : {A : Type 0} (x : Option A) (f : A → Option Command) → ((a : A) → AskSome (f a)) → AskSome (with x f)
behind None f law = tt
behind (Some a) f law = law a

alone_asks : (command : Command) (words : List (List ℕ)) → HasDepth command → AskSome (alone command words)
alone_asks command words some = either (length words == 0) (Some command) None some tt

-- ---- a number that is no 0

counted : (n : ℕ) (b : Bool) → (n == 0) ≡ b → IfSome (if b then None else Some n) (λ (m : ℕ). 1 ≤ m)
counted n true is = tt
counted n false is = let not = eqb-false n 0 is in omega (arith, not)

-- what is said of a number, of a command with it
with_count : (pair : Pair) (n : ℕ) (x : Option ℕ) → IfSome x (λ (m : ℕ). 1 ≤ m) → AskSome (option_map (instances pair) x)
with_count pair n None some = tt
with_count pair n (Some m) some = some

counts : (pair : Pair) (x : Option ℕ) → AskSome (option_map (instances pair) (with x (λ n. if n == 0 then None else Some n)))
counts pair None = tt
counts pair (Some n) = with_count pair n (if n == 0 then None else Some n) (counted n (n == 0) refl)

-- ---- each command's words

instances_asks : (words : List (List ℕ)) → AskSome (instances_words words)
unfolding instances_words
instances_asks (r ∷ w ∷ rep ∷ depth ∷ []) = behind (pair_of r w rep []) (λ pair. option_map (instances pair) (depth_of depth)) (λ pair. counts pair (number_below 1025 depth))
instances_asks [] = tt
instances_asks (r ∷ []) = tt
instances_asks (r ∷ w ∷ []) = tt
instances_asks (r ∷ w ∷ rep ∷ []) = tt
instances_asks (r ∷ w ∷ rep ∷ depth ∷ more ∷ words) = tt

convert_asks : (words : List (List ℕ)) → AskSome (convert_words words)
unfolding convert_words
convert_asks (r ∷ w ∷ rep ∷ to ∷ rest) = behind (rep_of to) (λ p. option_map (λ pair. convert pair p) (pair_of r w rep rest)) (λ p. mapped (λ pair. convert pair p) (λ pair. tt) (pair_of r w rep rest))
convert_asks [] = tt
convert_asks (r ∷ []) = tt
convert_asks (r ∷ w ∷ []) = tt
convert_asks (r ∷ w ∷ rep ∷ []) = tt

write_asks : (words : List (List ℕ)) → AskSome (write_words words)
unfolding write_words
write_asks (t ∷ rep ∷ []) = behind (reference t) (λ r. option_map (write r) (rep_of rep)) (λ r. mapped (write r) (λ p. tt) (rep_of rep))
write_asks [] = tt
write_asks (t ∷ []) = tt
write_asks (t ∷ rep ∷ more ∷ words) = tt

record_asks : (words : List (List ℕ)) → AskSome (record_words words)
unfolding record_words
record_asks (w ∷ rep ∷ []) = behind (reference w) (λ r. option_map (keep r) (rep_of rep)) (λ r. mapped (keep r) (λ p. tt) (rep_of rep))
record_asks [] = tt
record_asks (w ∷ []) = tt
record_asks (w ∷ rep ∷ more ∷ words) = tt

make_asks : (words : List (List ℕ)) → AskSome (make_words words)
unfolding make_words
make_asks (seed ∷ count ∷ []) = behind (long_number seed) (λ s. option_map (make s) (number_below 100001 count)) (λ s. mapped (make s) (λ n. tt) (number_below 100001 count))
make_asks [] = tt
make_asks (seed ∷ []) = tt
make_asks (seed ∷ count ∷ more ∷ words) = tt

compare_asks : (words : List (List ℕ)) → AskSome (compare_words words)
unfolding compare_words
compare_asks (rep ∷ rest) = behind (rep_of rep) (λ p. option_map (compare p) (policy_of rest)) (λ p. mapped (compare p) (λ q. tt) (policy_of rest))
compare_asks [] = tt

wrap_asks : (words : List (List ℕ)) → AskSome (wrap_words words)
unfolding wrap_words
wrap_asks (kind ∷ []) = mapped wrap (λ k. tt) (kind_word kind)
wrap_asks [] = tt
wrap_asks (kind ∷ more ∷ words) = tt

replay_asks : (words : List (List ℕ)) → AskSome (replay_words words)
unfolding replay_words
replay_asks (r ∷ []) = mapped replay (λ t. tt) (reference r)
replay_asks [] = tt
replay_asks (r ∷ more ∷ words) = tt

by_name : (name : List ℕ) (words : List (List ℕ)) → AskSome (command_by name words)
unfolding command_by
by_name name words =
    either (bytes_eq name (codes "compile")) _ _ (alone_asks compile words tt)
    (either (bytes_eq name (codes "judge")) _ _ (mapped judge (λ pair. tt) (pair_words words))
    (either (bytes_eq name (codes "read")) _ _ (mapped read (λ pair. tt) (pair_words words))
    (either (bytes_eq name (codes "write")) _ _ (write_asks words)
    (either (bytes_eq name (codes "convert")) _ _ (convert_asks words)
    (either (bytes_eq name (codes "show")) _ _ (alone_asks show words tt)
    (either (bytes_eq name (codes "wrap")) _ _ (wrap_asks words)
    (either (bytes_eq name (codes "instances")) _ _ (instances_asks words)
    (either (bytes_eq name (codes "record")) _ _ (record_asks words)
    (either (bytes_eq name (codes "replay")) _ _ (replay_asks words)
    (either (bytes_eq name (codes "make")) _ _ (make_asks words)
    (either (bytes_eq name (codes "compare")) _ _ (compare_asks words) tt)))))))))))

asks : (words : List (List ℕ)) → AskSome (command_of words)
unfolding command_of
asks [] = tt
asks (name ∷ words) = by_name name words

pub has_depth : (words : List (List ℕ)) (command : Command) → command_of words ≡ Some command → HasDepth command
has_depth words command is = subst AskSome is (asks words)
