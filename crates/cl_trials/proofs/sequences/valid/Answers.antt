use Rattle.std.proofs.Common.{◌≡◌, not, Bool, true, false, nat_lt, if◌then◌else◌, Result, Ok, Err}
use Rattle.cl_values.specs.declared.refusal.ValueRefusal.{ValueRefusal}
use Rattle.cl_values.specs.declared.refusal.ValueRefusal.TheVariants.{BadTuple, BadText, TooDeep, TooLarge}
use Rattle.cl_values.specs.Tree.{Tree, depth_of}
use Rattle.cl_values.specs.Wire.{size_of}
use Rattle.cl_values.specs.Valid.{made, has_rising_keys, has_good_texts}
use Rattle.cl_trials.proofs.sequences.valid.Goals as goal

abbrev made_by : Bool → Bool → Bool → Bool → Tree → Result Tree ValueRefusal
made_by rising good deep large v =
    if not rising then Err BadTuple else if not good then Err BadText else if deep then Err TooDeep else if large then Err TooLarge else Ok v

same_by : (rising good deep large : Bool) (v w : Tree) → Ok w ≡ made_by rising good deep large v → w ≡ v
same_by false good deep large v w h = absurd cc
same_by true false deep large v w h = absurd cc
same_by true true true large v w h = absurd cc
same_by true true false true v w h = absurd cc
same_by true true false false v w h = cc

made_same : (v w : Tree) → Ok w ≡ made v → w ≡ v
made_same v w h = same_by (has_rising_keys v) (has_good_texts v) (nat_lt 32 (depth_of v)) (nat_lt 1048576 (size_of v)) v w h

pub returns : goal.returns
returns c = made_same c.args.value c.in_ok-make.field-0 c.in_ok-make.ensures
