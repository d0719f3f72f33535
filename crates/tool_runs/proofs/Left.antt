-- What a command that was answered leaves of its input.
use Rattle.std.proofs.Common.{◌≡◌, ◌∙◌, ℕ, Bool, true, false, List, ◌++◌, length, nat_lt, take, drop, if◌then◌else◌, None, Some, IfSome, Result, Ok, Err, sym, ap, subst, arith}
use Rattle.std.specs.Prelude.{OnErr, OnOk, IfOk}
use Rattle.std.specs.declared.option.Option.{Option}
use Rattle.std.specs.Option.{option_map}
use Rattle.std.specs.Io.KnownBytes.{IsAtEnd}
use Rattle.std.proofs.lemmas.List.{take-take, take-append-drop}
use Rattle.xt_io.specs.declared.Head.{Head}
use Rattle.xt_io.specs.declared.Item.{Item}
use Rattle.xt_io.specs.declared.bundle.Pending.{Pending}
use Rattle.xt_io.specs.Bundles.{Bundle, cut, before_bundle, item_of, with_payload}
use Rattle.xt_io.specs.Readers.{Reading, rest_of}
use Rattle.tool_runs.specs.declared.output.ending.Ending.{Ending}
use Rattle.tool_runs.specs.declared.output.ending.Style.{Style}
use Rattle.tool_runs.specs.declared.output.halt.Halt.{Halt}
use Rattle.tool_runs.specs.declared.output.stop.Stop.{Stop}
use Rattle.tool_runs.specs.declared.output.stop.Stop.TheVariants as stops
use Rattle.tool_runs.specs.declared.output.turns.Next.{Next}
use Rattle.tool_runs.specs.declared.output.turns.Next.TheVariants as nexts
use Rattle.tool_runs.specs.output.Outputs.{Refusal}
use Rattle.tool_runs.specs.output.Runs.{MayGo, ComesTold, both, coming}
use Rattle.tool_runs.specs.declared.front.front.Front.{Front as Read}
use Rattle.tool_runs.specs.front.Fronts.{Front, closed, front_of}
use Rattle.tool_runs.specs.front.Reading.{FrontIs, GivesFront}
use Rattle.tool_runs.specs.Leaving.{Leaves, LeavesBody, LeavesNothing, OnlyHeadRead}
use Rattle.tool_runs.specs.Stopping.{Concludes}

-- ---- the head at which the body begins

by_length : (head : Head) (left : List ℕ) (after : Bundle) (short : Bool)
    → let body = if short then cut head else before_bundle (item_of head (take head.length (take head.length left))) after in OnlyHeadRead body.items body.end (Some left)
by_length head left after true = tt
by_length head left after false =
    let all : left ≡ take head.length (take head.length left) ++ drop head.length left = sym (ap (λ l. l ++ drop head.length left) (take-take head.length head.length left (omega arith)) ∙ take-append-drop head.length left) in
    (drop head.length left, all)

by_head : (head : Head) (pending : Option Pending) (left : Option (List ℕ)) (ahead : Option Bundle) → rest_of pending ≡ head.length → IfSome (both (with_payload head) (option_map (take (rest_of pending)) left) ahead) (λ body. OnlyHeadRead body.items body.end left)
unfolding with_payload
by_head head pending None ahead e = tt
by_head head pending (Some left) None e = tt
by_head head pending (Some left) (Some after) e =
    subst (λ (n : ℕ). let body = with_payload head (take n left) after in OnlyHeadRead body.items body.end (Some left)) (sym e) (by_length head left after (nat_lt (length (take head.length left)) head.length))

-- Where a reader just came to it, none of the payload behind it was read.
only_head : (next : Next) (reader : Reading) → MayGo next reader → IfSome (coming next reader) (λ body. OnlyHeadRead body.items body.end reader.left)
only_head nexts.End reader go = go
only_head (nexts.Broken fault) reader go = tt
only_head (nexts.Record head) reader go = by_head head reader.pending reader.left reader.ahead (ap rest_of go.pending)

-- ---- the front

-- the front was read, and of the body behind it this holds
pub behind_front : (P : Front → Option (List ℕ) → Type 0) (first : Option Bundle) (read : Read) (reader : Reading) (left : Option (List ℕ)) → FrontIs first (Ok read) reader → IfSome (coming read.next reader) (λ body. P (record { records = read.records; body = body }) left) → Leaves P first left
behind_front P None read reader left front body = tt
behind_front P (Some first) read reader left front body = given (coming read.next reader) front body
  where
    given : (behind : Option Bundle) → GivesFront first read.records behind → IfSome behind (λ body. P (record { records = read.records; body = body }) left) → IfOk (front_of 0 first) (λ front. P front left)
    given None front body = absurd front
    given (Some behind) front body = subst (λ (f : Result Front Refusal). IfOk f (λ front. P front left)) (sym front) body

-- what holds anyway
pub where_ok : {P : Type 0} (result : Result Ending Halt) → P → OnOk result P
where_ok (Ok ending) p = p
where_ok (Err halt) p = tt

-- it was refused, or not read
pub front_stopped : (P : Front → Option (List ℕ) → Type 0) (first : Option Bundle) (style : Style) (stop : Stop) (reader : Reading) (result : Result Ending Halt) (left old new : Option (List ℕ)) → FrontIs first (Err stop) reader → Concludes style stop result old new → OnOk result (Leaves P first left)
front_stopped P first style (stops.Halted halt) reader result left old new front ends = subst (λ (r : Result Ending Halt). OnOk r (Leaves P first left)) (sym ends.0) tt
front_stopped P first style (stops.Refused r) reader result left old new front ends = where_ok result (refused first front)
  where
    refused : (b : Option Bundle) → FrontIs b (Err (stops.Refused r)) reader → Leaves P b left
    refused None f = tt
    refused (Some before) f = subst (λ (x : Result Front Refusal). IfOk x (λ front. P front left)) (sym f) tt

-- ---- a body

same_left : {A : Type 0} (prepared : Result A Refusal) (body : Bundle) (now reader : Reading) → OnErr prepared (now ≡ reader) → OnlyHeadRead body.items body.end reader.left → OnErr prepared (OnlyHeadRead body.items body.end now.left)
same_left (Ok run) body now reader same only = tt
same_left (Err refusal) body now reader same only = subst (λ (r : Reading). OnlyHeadRead body.items body.end r.left) (sym same) only

-- where the records are refused, the reader stays as it is
pub body_left : {A : Type 0} (prepared : List Item → Result A Refusal) (first : Option Bundle) (read : Read) (reader now : Reading) → FrontIs first (Ok read) reader → MayGo read.next reader → OnErr (prepared read.records) (now ≡ reader) → (result : Result Ending Halt) → OnOk result (Leaves (LeavesBody prepared) first now.left)
body_left prepared first read reader now front go same result = where_ok result (behind_front (LeavesBody prepared) first read reader now.left front (each (coming read.next reader) (only_head read.next reader go)))
  where
    each : (o : Option Bundle) → IfSome o (λ body. OnlyHeadRead body.items body.end reader.left) → IfSome o (λ body. LeavesBody prepared (record { records = read.records; body = body }) now.left)
    each None only = tt
    each (Some body) only = same_left (prepared read.records) body now reader same only

-- ---- nothing behind the front

-- the rest of the input is refused, or was not read
pub rest_stopped : (body : Option Bundle) (style : Style) (stop : Stop) (result : Result Ending Halt) (left old new : Option (List ℕ)) → ComesTold {X = Unit {0}} (option_map closed body) (λ u. u) (Err stop) → Concludes style stop result old new → OnOk result (IfSome body (λ b. OnOk (closed b) (IsAtEnd left)))
rest_stopped body style (stops.Halted halt) result left old new told ends = subst (λ (x : Result Ending Halt). OnOk x (IfSome body (λ b. OnOk (closed b) (IsAtEnd left)))) (sym ends.0) tt
rest_stopped body style (stops.Refused r) result left old new told ends = where_ok result (refused body told)
  where
    refused : (o : Option Bundle) → ComesTold {X = Unit {0}} (option_map closed o) (λ u. u) (Err (stops.Refused r)) → IfSome o (λ b. OnOk (closed b) (IsAtEnd left))
    refused None t = tt
    refused (Some b) t = subst (λ (x : Result (Unit {0}) Refusal). OnOk x (IsAtEnd left)) (sym t) tt

-- it was read to its end
pub rest_read : (body : Option Bundle) (result : Result Ending Halt) (left : Option (List ℕ)) → IsAtEnd left → OnOk result (IfSome body (λ b. OnOk (closed b) (IsAtEnd left)))
rest_read body result left end = where_ok result (each body)
  where
    anyway : (x : Result (Unit {0}) Refusal) → OnOk x (IsAtEnd left)
    anyway (Ok u) = end
    anyway (Err refusal) = tt

    each : (o : Option Bundle) → IfSome o (λ b. OnOk (closed b) (IsAtEnd left))
    each None = tt
    each (Some b) = anyway (closed b)

-- what was read behind the front
pub none_left : (first : Option Bundle) (read : Read) (reader : Reading) (result : Result Ending Halt) (left : Option (List ℕ)) → FrontIs first (Ok read) reader → OnOk result (IfSome (coming read.next reader) (λ b. OnOk (closed b) (IsAtEnd left))) → OnOk result (Leaves LeavesNothing first left)
none_left first read reader (Err halt) left front behind = tt
none_left first read reader (Ok ending) left front behind = behind_front LeavesNothing first read reader left front behind
