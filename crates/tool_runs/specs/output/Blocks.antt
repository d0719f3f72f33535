-- What a block holds, and what handing it on does to the sink (this profile's own).
use Rattle.std.specs.Prelude.{◌≡◌, ℕ, ◌≤◌, List, [], ◌++◌, ◌⊎◌, Option, Result, Err, IsErrOf}
use Rattle.std.specs.Io.KnownBytes.{Keeps, Appends, append_known}
use Rattle.xt_io.specs.Outside.{Rose, AppendsPrefix}
use Rattle.tool_runs.specs.declared.output.block.Block.{Block}
use Rattle.tool_runs.specs.declared.output.ending.Style.{Style}
use Rattle.tool_runs.specs.declared.output.halt.Halt.{Halt}
use Rattle.tool_runs.specs.declared.output.halt.Halt.TheVariants as halts
use Rattle.tool_runs.specs.declared.output.stop.Stop.{Stop}
use Rattle.tool_runs.specs.declared.output.stop.Stop.TheVariants as stops
use Rattle.tool_runs.specs.output.Outputs.{Output}
use Rattle.tool_runs.specs.output.Runs.{Steps, at_number}
use Rattle.tool_runs.specs.output.Texts.{octets_of}

-- the octets that it holds
abbrev pub held : Block → List ℕ
held block = block.front.items ++ octets_of block.large

-- how often memory was wanting for what it was to hold
abbrev pub wanting : Block → ℕ
wanting block = block.wanting

-- what a sink took, and behind it what a block holds
abbrev pub reached : Option (List ℕ) → List ℕ → Option (List ℕ)
reached taken octets = append_known taken octets

-- The sink took more, or nothing.
abbrev pub Grew : Option (List ℕ) → Option (List ℕ) → Type 0
Grew old new = (some : List ℕ) × Appends old new some

-- What a call did that may hand on what the block held: the sink took some of the first octets. Unless the sink failed, those that it didn't take are
-- still held; where it failed nothing is.
pub record HandsOn {T : Type 0} (result : Result T Halt) (old new : Option (List ℕ)) (before now : List ℕ) : Type 0 where
  pub some : AppendsPrefix old new before
  pub all : (IsErrOf result halts.WriteFault → ⊥) → Keeps (reached old before) (reached new now)
  pub none : IsErrOf result halts.WriteFault → now ≡ []

-- What a turn writes goes into the block: the pieces up to what is then still to be written, whatever the sink took before.
abbrev pub Gathers : {T : Type 0} → Style → Option Output → Option Output → Result T Stop → (before now : List ℕ) → Type 0
Gathers style first rest result before now = (taken : Option (List ℕ)) → Steps style first rest result (reached taken before) (reached taken now)

-- A sink in memory fails for want of it.
abbrev pub memory_halt : Halt → Halt
memory_halt halts.ReadFault = halts.ReadFault
memory_halt halts.WriteFault = halts.OutOfMemory
memory_halt halts.OutOfMemory = halts.OutOfMemory

-- What was to be written up to a number is written, where the block's octets lead there.
abbrev pub Finishes : Result ℕ Stop → Result ℕ Stop → Option (List ℕ) → Option (List ℕ) → List ℕ → Type 0
Finishes ran result old new octets = (style : Style) (first : Option Output) (more : ℕ → Output) (start : Option (List ℕ)) → Grew start old → Steps style first (at_number more ran) ran start (reached old octets)
    → Steps style first (at_number more result) result start new

-- The answer is that of the run, unless the sink failed.
pub record KeepsAnswer (sink_before sink_now : ℕ) (ran result : Result ℕ Stop) : Type 0 where
  pub later : sink_before ≤ sink_now
  pub is : (result ≡ ran) ⊎ ((result ≡ Err (stops.Halted halts.WriteFault)) × Rose sink_before sink_now)
