-- 01, "Carrying out": what taking a cell does, code by code. "Each millisecond outside a run or delay takes the present cell."
-- Assumes nothing.
use Rattle.std.specs.Prelude.{ℕ, ◌+◌, ◌-◌, Bool, true, false, List, eqb, ltb, ℤ, get_or}
use Rattle.laws.specs.Tests.{choose, both, same}
use Rattle.units.specs.Shift.{shift_of, is_beyond_of}
use Rattle.units.specs.Remaining.{is_zero_of}
use Rattle.units.specs.declared.CellAddress.{CellAddress}
use Rattle.units.specs.declared.Milliseconds.{Milliseconds}
use Rattle.instruction.specs.Codes.{code_of}
use Rattle.instruction.specs.Runs.{profile_of}
use Rattle.instruction.specs.declared.Cell.{Cell}
use Rattle.instruction.specs.declared.ConditionName.{ConditionName}
use Rattle.instruction.specs.declared.Instruction.{Instruction}
use Rattle.instruction.specs.declared.Instruction.TheVariants.{Null, IndexedRamp, IndexedRampFine, FreeRamp, FreeRampFine, Indexed, IndexedFine, Free, FreeFine, ZeroSearch, DelayedStop, CamSetting, OutputSetting, CounterReset, OpeningLoop, ClosingLoop, ConditionalJump, TimeDelay, Recovery, CurrentSetting}
use Rattle.instruction.specs.declared.run.Motion.{Motion}
use Rattle.instruction.specs.declared.run.Motion.TheVariants.{NoRun, IndexedRun, FreeRun, SearchRun, DelayedStopRun}
use Rattle.instruction.specs.declared.run.Profile.{Profile}
use Rattle.machine.specs.Record.{origin, nothing_suspended, with_position, with_cam, with_suspended, with_running, with_loop_count, with_output, input_at, in_px, in_es, out_f0, out_cu, stopped, is_absolute}
use Rattle.machine.specs.Starting.{waiting_at, advanced, failed, entered}
use Rattle.machine.specs.declared.Resolution.{Resolution}
use Rattle.machine.specs.declared.Resolution.TheVariants.{D0, D1, D2, D3, B0, B1, B2, B3}
use Rattle.machine.specs.declared.Remaining.{Remaining}
use Rattle.machine.specs.declared.Remaining.TheVariants.{Nothing, Counted, Timed}
use Rattle.machine.specs.declared.Phase.TheVariants.{Delay, Run, BackOff}
use Rattle.machine.specs.declared.State.{State}

-- 01: "62: count 0 is error 52; else one less, then DDD at 0, EEE otherwise"
unfoldable pub take_closing_loop : State → CellAddress → CellAddress → State
take_closing_loop s jump next =
    choose (eqb s.running.loops 0) (failed s 52)
    (advanced (with_running s (with_loop_count s.running (s.running.loops - 1)))
    (choose (eqb s.running.loops 1) next jump))

-- the level of what a 63 names, given the inputs and the outputs: I0 to I2, PX, S0 to S3, then F0 to F7
unfoldable pub level_at : List Bool → List Bool → ℕ → Bool
level_at ins outs k = choose (ltb k 8) (get_or ins k false) (get_or outs (out_f0 + (k - 8)) false)

abbrev pub condition_at : State → ℕ → Bool
condition_at s k = level_at s.inputs s.outputs k

-- 01: "63: EEE if II equals V, else DDD"
unfoldable pub take_conditional_jump : State → ConditionName → Bool → CellAddress → CellAddress → State
take_conditional_jump s i v jump next = advanced s (choose (same (condition_at s i.0) v) jump next)

-- 01: "65: a delay of nnn later milliseconds; 0 passes on"
unfoldable pub take_time_delay : State → Milliseconds → CellAddress → State
take_time_delay s n next = choose (eqb n.0 0) (advanced s next) (entered s Delay (Timed n))

-- 01: "x4 with RS not D2, D3, B2, B3 is error 51"
abbrev pub allows_x4 : Resolution → Bool
allows_x4 D0 = false
allows_x4 D1 = false
allows_x4 D2 = true
allows_x4 D3 = true
allows_x4 B0 = false
allows_x4 B1 = false
allows_x4 B2 = true
allows_x4 B3 = true

unfoldable pub lacks_x4 : State → Bool → Bool
lacks_x4 s x4 = choose x4 (choose (allows_x4 s.presets.resolution) false true) false

-- a run of a counted number of steps
unfoldable pub begin_indexed : State → ℤ → CellAddress → State
begin_indexed s shift next =
    choose (is_zero_of (record { 0 = shift })) (advanced s next) (entered s Run (Counted (record { 0 = shift })))

-- 01: "Indexed: shift = n×m"; 02: "In absolute mode n is the target itself for x1 and x4"
unfoldable pub shift_for : State → Profile → ℤ
shift_for s p = shift_of p.steps p.x4 (is_absolute s.presets) s.position

-- 02: in absolute mode, "A shift beyond 8,388,607 either way gives error 50 in both." 01: "Shift 0 passes on."
unfoldable pub take_indexed : State → Profile → CellAddress → State
take_indexed s p next =
    choose (both (is_absolute s.presets) (is_beyond_of (shift_for s p))) (failed s 50) (begin_indexed s (shift_for s p) next)

-- 01: "02, 32, 12, 22 and 05 are passed over while input ES is on"
unfoldable pub take_free : State → CellAddress → State
take_free s next = choose (input_at s in_es) (advanced s next) (entered s Run Nothing)

-- 01, of 03: fast along s until PX is on, then slow down, "both skipped if PX is on when taken"
unfoldable pub take_search : State → State
take_search s = choose (input_at s in_px) (entered s BackOff Nothing) (entered s Run Nothing)

unfoldable pub take_motion : Motion → State → Profile → CellAddress → State
take_motion NoRun s p next = advanced s next
take_motion IndexedRun s p next = take_indexed s p next
take_motion FreeRun s p next = take_free s next
take_motion SearchRun s p next = take_search s
take_motion DelayedStopRun s p next = take_free s next

-- 01: "Runs: x4 with RS not D2, D3, B2, B3 is error 51", before all else
unfoldable pub take_run : State → Profile → CellAddress → State
take_run s p next = choose (lacks_x4 s p.x4) (failed s 51) (take_motion p.motion s p next)

-- 01: "00, 57, 58, 60 (position 0), 70 (CU), 61 (loop count = nnn) act and pass to DDD." A 69 with an empty record ends the program.
-- The other codes are runs.
unfoldable pub take : State → Instruction → CellAddress → State
take s Null next = advanced s next
take s (CamSetting v p) next = advanced (with_cam s (record { set = v; position = p })) next
take s (OutputSetting o v) next = advanced (with_output s o.0 v) next
take s CounterReset next = advanced (with_position s origin) next
take s (CurrentSetting v) next = advanced (with_output s out_cu v) next
take s (OpeningLoop n) next = advanced (with_running s (with_loop_count s.running n)) next
take s (ClosingLoop e) next = take_closing_loop s e next
take s (ConditionalJump i v e) next = take_conditional_jump s i v e next
take s (TimeDelay n) next = take_time_delay s n next
take s Recovery next = stopped s
take s (IndexedRamp f r x n) next = take_run s (profile_of (IndexedRamp f r x n)) next
take s (IndexedRampFine f r x n) next = take_run s (profile_of (IndexedRampFine f r x n)) next
take s (FreeRamp f r b x) next = take_run s (profile_of (FreeRamp f r b x)) next
take s (FreeRampFine f r b x) next = take_run s (profile_of (FreeRampFine f r b x)) next
take s (Indexed f x n) next = take_run s (profile_of (Indexed f x n)) next
take s (IndexedFine x f n) next = take_run s (profile_of (IndexedFine x f n)) next
take s (Free f b x) next = take_run s (profile_of (Free f b x)) next
take s (FreeFine b x f) next = take_run s (profile_of (FreeFine b x f)) next
take s (ZeroSearch f r b l) next = take_run s (profile_of (ZeroSearch f r b l)) next
take s (DelayedStop f r t n) next = take_run s (profile_of (DelayedStop f r t n)) next

-- 01, of 69: "resumed in the same millisecond, with its rest as shift or delay (error 51 is judged again, 50 not), or taken anew if rest is 0"
unfoldable pub resume : Remaining → State → Cell → State
resume Nothing s c = take s c.instruction c.next
resume (Counted n) s c = choose (lacks_x4 s (profile_of c.instruction).x4) (failed s 51) (entered s Run (Counted n))
resume (Timed n) s c = entered s Delay (Timed n)

-- 01: "the loop count is restored, the record emptied, and its cell becomes the present one"
abbrev pub restored : State → State
restored s =
    with_running (with_suspended s nothing_suspended) (waiting_at s.suspended.cell s.suspended.loops)

-- 01: "69: empty record ends the program; else ..": c is the record's cell
unfoldable pub recover : State → Cell → State
recover s c =
    choose (eqb s.suspended.cell.0 0) (stopped s) (resume s.suspended.remaining (restored s) c)

-- code 69
unfoldable pub is_recovery : Instruction → Bool
is_recovery i = eqb (code_of i) 69

-- taking a cell, given the interrupted record's cell, where a 69 goes on
unfoldable pub take_cell : State → Cell → Cell → State
take_cell s c held = choose (is_recovery c.instruction) (recover s held) (take s c.instruction c.next)
