-- What holds of each type that is read where it is used: it holds of those that are named, and each way to make a type keeps it.
use Rattle.std.proofs.Common.{◌||◌, cond, ◌≤◌, [], ℕ, zero, suc, Option, Some, None, arith}
use Rattle.std.specs.Prelude.{codes}
use Rattle.xt_shapes.specs.declared.leaves.Primitive.{Primitive}
use Rattle.xt_shapes.specs.declared.leaves.Try.{Try}
use Rattle.type_trees.specs.Trees.{Tree, prim, str, sequence, map_of}
use Rattle.xt_annotations.specs.declared.places.Site.{Site}
use Rattle.idl_input.specs.declared.words.Keyword.{Keyword}
use Rattle.idl_input.specs.declared.words.Keyword.TheVariants as word
use Rattle.idl_input.specs.Input.{Parser, ◌>>=◌, ◌>>◌, pure, take_token, want, eat, bound, turns, notes_at, keyword_at, sees, sees_name}
use Rattle.idl_types.specs.State.{State}
use Rattle.idl_types.specs.Names.{type_by_name}
use Rattle.idl_types.specs.Types.{last_bound, string_type, long_type, unsigned_type, element, sequence_type, map_type, named_type, plain_type, type_by, deep_type, due, type_to, a_type}
use Rattle.idl_laws.proofs.OfParsed.Gives.{Yields, bind, behind, next, given, fails, either, tested, by_input, at_input, if_eaten, bound_yields}

-- each type that is made of such types is such a type
pub record IsKept (P : Tree → Type 0) : Type 0 where
  pub of_prim : (p : Primitive) → P (prim p)
  pub of_str : (n : ℕ) → n ≤ 4294967295 → P (str n)
  pub of_sequence : (n : ℕ) (tc : Try) (t : Tree) → n ≤ 4294967295 → P t → P (sequence n tc t)
  pub of_map : (n : ℕ) (kc : Try) (k : Tree) (vc : Try) (v : Tree) → n ≤ 4294967295 → P k → P v → P (map_of n kc k vc v)

-- ---- without collections

unsigned_yields : (P : Tree → Type 0) → IsKept P → Yields unsigned_type P
unfolding unsigned_type
unsigned_yields P keeps =
    if_eaten (codes "short") (given (keeps.of_prim Primitive.Uint16)) (next (want (codes "long")) (behind (eat (codes "long")) {f = λ more. pure (prim (cond more Primitive.Uint64 Primitive.Uint32))} (λ more. given (keeps.of_prim _))))

long_yields : (P : Tree → Type 0) → IsKept P → Yields long_type P
unfolding long_type
long_yields P keeps = behind (eat (codes "long")) {f = λ more. pure (prim (cond more Primitive.Int64 Primitive.Int32))} (λ more. given (keeps.of_prim _))

string_yields : (P : Tree → Type 0) → IsKept P → Yields string_type P
unfolding string_type
string_yields P keeps = if_eaten (codes "<") (bind bound_yields (λ n fits. next (want (codes ">")) (given (keeps.of_str n fits)))) (given (keeps.of_str 0 (omega arith)))

named_yields : (P : Tree → Type 0) (s : State) → Yields (type_by_name s) P → Yields (named_type s) P
unfolding named_type
named_yields P s named = by_input (λ i. tested (sees_name i || sees (codes "::") i) (λ _. at_input named i) (λ _. fails))

plain_yields : (P : Tree → Type 0) → IsKept P → (s : State) → Yields (type_by_name s) P → (k : Option Keyword) → Yields (plain_type s k) P
plain_yields P keeps s named (Some (word.Simple p)) = next take_token {q = pure (prim p)} (given (keeps.of_prim p))
plain_yields P keeps s named (Some word.Long) = next take_token {q = long_type} (long_yields P keeps)
plain_yields P keeps s named (Some word.Unsigned) = next take_token {q = unsigned_type} (unsigned_yields P keeps)
plain_yields P keeps s named (Some word.Str) = next take_token {q = string_type} (string_yields P keeps)
plain_yields P keeps s named None = named_yields P s named
plain_yields P keeps s named (Some _) = fails

-- ---- collections

last_bound_yields : Yields last_bound (λ n. n ≤ 4294967295)
unfolding last_bound
last_bound_yields =
    behind (eat (codes ",")) {f = λ bounded. cond bounded bound (pure 0) >>= λ n. want (codes ">") >> pure n} (λ b. bind (either b bound_yields (given (omega arith)))
    (λ n fits. next (want (codes ">")) (given fits)))

element_yields : (P : Tree → Type 0) (inner : Parser Tree) → Yields inner P → Yields (element inner) (λ e. P e.1)
unfolding element
element_yields P inner reads = behind (notes_at Site.Element) (λ ns. bind reads (λ t holds. given holds))

sequence_yields : (P : Tree → Type 0) → IsKept P → (inner : Parser Tree) → Yields inner P → Yields (sequence_type inner) P
unfolding sequence_type
sequence_yields P keeps inner reads =
    next take_token (next (want (codes "<")) (bind (element_yields P inner reads) (λ e holds. bind last_bound_yields (λ n fits. given (keeps.of_sequence n e.0 e.1 fits holds)))))

map_yields : (P : Tree → Type 0) → IsKept P → (inner : Parser Tree) → Yields inner P → Yields (map_type inner) P
unfolding map_type
map_yields P keeps inner reads =
    next take_token (next (want (codes "<")) (bind (element_yields P inner reads) (λ k key. next (want (codes ",")) (bind (element_yields P inner reads)
    (λ v value. bind last_bound_yields (λ n fits. given (keeps.of_map n k.0 k.1 v.0 v.1 fits key value)))))))

-- ---- types

by_yields : (P : Tree → Type 0) → IsKept P → (s : State) → Yields (type_by_name s) P → (sequences maps : Parser Tree) → Yields sequences P → Yields maps P → (k : Option Keyword)
    → Yields (type_by sequences maps s k) P
by_yields P keeps s named sequences maps first second (Some word.Sequence) = first
by_yields P keeps s named sequences maps first second (Some word.Map) = second
by_yields P keeps s named sequences maps first second None = plain_yields P keeps s named None
by_yields P keeps s named sequences maps first second (Some k) = plain_yields P keeps s named (Some k)

deep_yields : (P : Tree → Type 0) → IsKept P → (s : State) → Yields (deep_type s) P
unfolding deep_type
deep_yields P keeps s = by_input (λ i. at_input (next (due s (turns i) []) {q = pure (prim Primitive.Boolean)} (given (keeps.of_prim Primitive.Boolean))) i)

to_yields : (P : Tree → Type 0) → IsKept P → (s : State) → Yields (type_by_name s) P → (n : ℕ) → Yields (type_to s n) P
unfolding type_to
to_yields P keeps s named zero =
    by_input (λ i. at_input (by_yields P keeps s named (deep_type s) (deep_type s) (deep_yields P keeps s) (deep_yields P keeps s) (keyword_at i)) i)
to_yields P keeps s named (suc n) =
    let sequences = sequence_yields P keeps (type_to s n) (to_yields P keeps s named n) in
    let maps = map_yields P keeps (type_to s n) (to_yields P keeps s named n) in
    by_input (λ i. at_input (by_yields P keeps s named (sequence_type (type_to s n)) (map_type (type_to s n)) sequences maps (keyword_at i)) i)

-- a type that was read
pub type_yields : (P : Tree → Type 0) → IsKept P → (s : State) → Yields (type_by_name s) P → Yields (a_type s) P
type_yields P keeps s named = to_yields P keeps s named 17
