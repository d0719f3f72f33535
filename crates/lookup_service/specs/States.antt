-- Replies over a rising list of states of a pass (own). What is asked for is DDS-XTypes 1.3, 7.6.3.3.
use Rattle.std.specs.Prelude.{◌≡◌, ℕ, List, [], ◌∷◌}
use Rattle.type_lookup.specs.declared.messages.messages.Message.{Message}
use Rattle.type_lookup.specs.messages.Spelling.{HasFrame}
use Rattle.type_registry.specs.Passed.{PassView, known, Grows, IsPass}
use Rattle.lookup_service.specs.replies.Replies.{IsReply}

-- From one state to the next, which has all that the one had: the reply to a request is by the next.
pub record IsStep (name : List ℕ → List ℕ) (state next : PassView) (request reply : Message) : Type 0 where
  pub grows : Grows state next
  pub sound : IsPass name next
  pub replies : IsReply name (known state) next request reply
  pub frame : HasFrame reply

-- Each request has its reply, by a state of its own, from a first state on to a last one.
abbrev pub Replied : (List ℕ → List ℕ) → PassView → List Message → List Message → PassView → Type 0
Replied name state [] [] last = last ≡ state
Replied name state [] (reply ∷ replies) last = ⊥
Replied name state (request ∷ requests) [] last = ⊥
Replied name state (request ∷ requests) (reply ∷ replies) last = (next : PassView) × IsStep name state next request reply × Replied name next requests replies last
