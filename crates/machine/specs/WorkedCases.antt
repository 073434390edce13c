-- Worked cases: what must come after a list of calls, from the sentences of 01 and of 02's Slips 4 and 6, and from the examples of chapters 3 to 5 of 001, which are
-- given here at address 00 and in 01's forms. A case is named by its sentence or paragraph; " .. " leaves words out. The form of a case is in Worked.
-- Assumes nothing.
use Rattle.std.specs.Prelude.{◌+◌, ◌≡◌, List, [], ◌∷◌, replicate}
use Rattle.machine.specs.Calls.Call.{SendString, SetInputs, Millisecond, Step, AtSpeed, Halted, Wait}
use Rattle.machine.specs.Cases.{send}
use Rattle.machine.specs.Worked.{Worked, unmet, i1, px, s0, s1, s2, s3, st, es, ee}
use Rattle.machine.specs.Worked.Worked.{Case}
use Rattle.machine.specs.Worked.Expected.{Answer, Silence, Order, Waits, Refusal}

-- ---- 01

-- which strings are heard and answered
unfoldable pub of_strings : List Worked
of_strings =
    Case "(2) first two bytes not digits, or neither own address nor 99: silent" [] (Silence "07QA") ∷
    Case "(3) busy, and bytes 3 and 4 not EE or ES: silent" (send "00PS,100" ∷ []) (Silence "00QA") ∷
    Case "(4) for 99, code not WS, EE, ES: silent" (send "99PS,100" ∷ []) (Answer "00QA" "00QA,+0") ∷
    Case "(5) .. wrong fields or range: `AAN`" [] (Answer "00WN,100,01,25,18,+10000,x1,000" "00N") ∷
    Case "(6) PS with input EE on: `AAN`" (SetInputs ee ∷ []) (Answer "00PS,100" "00N") ∷
    Case "where `AASC,0` may end there (0)" [] (Answer "00SC,0" "00Y") ∷
    Case "where `AASC,0` may end there (1)" [] (Answer "00SC,1" "00N") ∷
    Case "Address 99 is never answered" (send "00PS,100" ∷ []) (Silence "99EE") ∷
    Case "AA is the address in the string, also after WS,AD" [] (Answer "00WS,AD,38" "00Y") ∷
    []

-- what starts a program
unfoldable pub of_starts : List Worked
of_starts =
    Case "clears the error"
    (send "00WN,100,62,100,000" ∷ send "00PS,100" ∷ Millisecond ∷ send "00PS,110" ∷ Millisecond ∷ []) (Answer "00QE" "00QE,00,000") ∷
    Case "100 + S0 + 2×S1 + 4×S2 + 8×S3 (101)"
    (send "00WN,101,58,O0,1,000" ∷ SetInputs (st + s0) ∷ Wait 5 ∷ []) (Answer "00QO,O0" "00QO,O0,1") ∷
    Case "100 + S0 + 2×S1 + 4×S2 + 8×S3 (114)"
    (send "00WN,114,58,O0,1,000" ∷ SetInputs (st + s1 + s2 + s3) ∷ Wait 5 ∷ []) (Answer "00QO,O0" "00QO,O0,1") ∷
    Case "ST going on with EE off" (SetInputs (st + ee) ∷ SetInputs st ∷ []) (Answer "00QA" "00QA,+0") ∷
    Case "and ES off where preset ES is 1" (send "00WS,ES,1" ∷ SetInputs (st + es) ∷ []) (Answer "00QA" "00QA,+0") ∷
    []

-- codes that act
unfoldable pub of_codes : List Worked
of_codes =
    Case "00, 57, 58, .. act and pass to DDD"
    (send "00WN,100,58,O0,1,101" ∷ send "00WN,101,58,O1,1,000" ∷ send "00PS,100" ∷ Wait 9 ∷ []) (Answer "00QO,O1" "00QO,O1,1") ∷
    Case "SA and 60 never trigger it (60: the cam stays set)"
    (send "00SC,1,+0" ∷ send "00SA,5" ∷ send "00WN,100,60,000" ∷ send "00PS,100" ∷ Millisecond ∷ []) (Answer "00QC" "00QC,1,+0") ∷
    Case "SA and 60 never trigger it (60: O3 stays off)"
    (send "00SC,1,+0" ∷ send "00SA,5" ∷ send "00WN,100,60,000" ∷ send "00PS,100" ∷ Millisecond ∷ []) (Answer "00QO,O3" "00QO,O3,0") ∷
    Case "SA and 60 never trigger it (SA)" (send "00SC,1,+5" ∷ send "00SA,5" ∷ []) (Answer "00QC" "00QC,1,+5") ∷
    []

-- codes that count or choose
unfoldable pub of_counts : List Worked
of_counts =
    Case "62: count 0 is error 52; else one less, then DDD at 0, EEE otherwise"
    (send "00WN,100,61,2,101" ∷ send "00WN,101,62,103,102" ∷ send "00WN,103,58,O0,1,101" ∷ send "00PS,100" ∷ Wait 20 ∷ [])
    (Answer "00QO,O0" "00QO,O0,1") ∷
    Case "63: EEE if II equals V, else DDD"
    (send "00WN,100,63,I0,0,110,000" ∷ send "00WN,110,58,O0,1,000" ∷ send "00PS,100" ∷ Wait 9 ∷ []) (Answer "00QO,O0" "00QO,O0,1") ∷
    Case "65: a delay of nnn later milliseconds"
    (send "00WN,100,65,3,000" ∷ send "00PS,100" ∷ Millisecond ∷ Millisecond ∷ Millisecond ∷ send "00EE" ∷ []) (Answer "00QR" "00QR,100,+1,0") ∷
    []

-- what a run looks at when it is taken
unfoldable pub of_runs : List Worked
of_runs =
    Case "x4 with RS not D2, D3, B2, B3 is error 51"
    (send "00WS,RS,D0" ∷ send "00WN,100,11,05,+3,x4,000" ∷ send "00PS,100" ∷ Millisecond ∷ []) (Answer "00QE" "00QE,51,100") ∷
    Case "02, 32, 12, 22 and 05 are passed over while input ES is on"
    (SetInputs es ∷ send "00WN,100,12,05,+,x1,000" ∷ send "00PS,100" ∷ Millisecond ∷ []) (Answer "00QA" "00QA,+0") ∷
    Case "both skipped if PX is on when taken .. until PX is off, then pass on"
    (SetInputs px ∷ send "00WN,100,03,10,20,+,05,000" ∷ send "00PS,100" ∷ Millisecond ∷ SetInputs 0 ∷ []) (Answer "00QA" "00QA,+0") ∷
    Case "then at LL against s"
    (SetInputs px ∷ send "00WN,100,03,10,20,+,05,000" ∷ send "00PS,100" ∷ Millisecond ∷ Step ∷ SetInputs 0 ∷ []) (Answer "00QA" "00QA,-1") ∷
    Case "PX is looked at when a phase begins and at each inputs word"
    (send "00WN,100,03,10,20,+,05,000" ∷ send "00PS,100" ∷ Millisecond ∷ SetInputs px ∷ SetInputs 0 ∷ Halted ∷ []) (Answer "00QA" "00QA,+0") ∷
    Case "past +2,147,483,647 comes −2,147,483,648"
    (send "00SA,2147483647" ∷ send "00WN,100,11,05,+1,x1,000" ∷ send "00PS,100" ∷ Millisecond ∷ Step ∷ []) (Answer "00QA" "00QA,-2147483648") ∷
    []

-- stops, and the record that an emergency stop leaves
unfoldable pub of_stops : List Worked
of_stops =
    Case "then EE, ES and PX, each by being on or off in that word"
    (send "00WN,100,12,05,+,x1,000" ∷ send "00PS,100" ∷ Millisecond ∷ SetInputs (es + ee) ∷ SetInputs 0 ∷ []) (Answer "00QR" "00QR,100,+0,0") ∷
    Case "05, only after at-speed, goes on nnn×m steps along s .. a second one is ignored"
    (send "00WN,100,05,10,20,+,3,x1,000" ∷ send "00PS,100" ∷ Millisecond ∷ send "00ES" ∷ AtSpeed ∷ send "00ES" ∷ Step ∷ send "00ES" ∷ Step
    ∷ Step ∷ []) (Answer "00QA" "00QA,+3") ∷
    Case "if a rest reaches 0 meanwhile, the drive is idle with that step and the record empty"
    (send "00WN,100,01,10,20,+2,x1,000" ∷ send "00PS,100" ∷ Millisecond ∷ send "00EE" ∷ Step ∷ Step ∷ []) (Answer "00QR" "00QR,000") ∷
    Case "the record is cell, rest .. loop count"
    (send "00WN,100,61,7,101" ∷ send "00WN,101,65,9,000" ∷ send "00PS,100" ∷ Millisecond ∷ Millisecond ∷ send "00EE" ∷ [])
    (Answer "00QR" "00QR,101,+9,7") ∷
    Case "waiting at a 69, it is untouched"
    (send "00WN,100,65,9,000" ∷ send "00WN,101,69" ∷ send "00PS,100" ∷ Millisecond ∷ send "00EE" ∷ send "00PS,101" ∷ send "00EE" ∷ [])
    (Answer "00QR" "00QR,100,+9,0") ∷
    []

-- what becomes of the record
unfoldable pub of_records : List Worked
of_records =
    Case "WN of changed content into the interrupted record's cell empties the record"
    (send "00WN,100,65,9,000" ∷ send "00PS,100" ∷ Millisecond ∷ send "00EE" ∷ send "00WN,100,65,8,000" ∷ []) (Answer "00QR" "00QR,000") ∷
    Case "WN of equal content leaves it"
    (send "00WN,100,65,9,000" ∷ send "00PS,100" ∷ Millisecond ∷ send "00EE" ∷ send "00WN,100,65,09,000" ∷ [])
    (Answer "00QR" "00QR,100,+9,0") ∷
    []

-- code 69
unfoldable pub of_recoveries : List Worked
of_recoveries =
    Case "the loop count is restored"
    (send "00WN,100,65,9,103" ∷ send "00WN,103,62,103,000" ∷ send "00WN,101,61,5,102" ∷ send "00WN,102,69" ∷ send "00PS,100" ∷ Millisecond
    ∷ send "00EE" ∷ send "00PS,101" ∷ Wait 100 ∷ []) (Answer "00QE" "00QE,52,103") ∷
    Case "resumed in the same millisecond, with its rest as shift or delay"
    (send "00WN,100,11,05,+3,x1,000" ∷ send "00WN,101,69" ∷ send "00PS,100" ∷ Millisecond ∷ Step ∷ send "00EE" ∷ send "00PS,101" ∷ Millisecond
    ∷ Step ∷ Step ∷ []) (Answer "00QA" "00QA,+3") ∷
    []

unfoldable pub of_resumptions : List Worked
of_resumptions =
    Case "error 51 is judged again, 50 not (51)"
    (send "00WN,100,11,05,+3,x4,000" ∷ send "00WN,101,69" ∷ send "00PS,100" ∷ Millisecond ∷ send "00EE" ∷ send "00WS,RS,B1" ∷ send "00PS,101"
    ∷ Millisecond ∷ []) (Answer "00QE" "00QE,51,100") ∷
    Case "error 51 is judged again, 50 not (50)"
    (send "00WS,CM,1" ∷ send "00WN,100,11,05,+8388607,x1,000" ∷ send "00WN,101,69" ∷ send "00PS,100" ∷ Millisecond ∷ Step ∷ send "00EE"
    ∷ send "00SA,-5" ∷ send "00PS,101" ∷ Millisecond ∷ []) (Order "run,+,500,0,+8388606,1,0,0") ∷
    []

-- the order to the board, and how a wait ends
unfoldable pub of_orders : List Worked
of_orders =
    Case "Hz × m, .. always with IN, CU and FC"
    (send "00SO,FC,1" ∷ send "00WN,100,11,05,+3,x4,000" ∷ send "00PS,100" ∷ Millisecond ∷ []) (Order "run,+,2000,0,+12,1,0,1") ∷
    Case "slow in both slowings (for a free run stop)"
    (send "00WN,100,32,100,20,-,x1,000" ∷ send "00PS,100" ∷ Millisecond ∷ send "00ES" ∷ []) (Order "slow,1,0,0") ∷
    Case "slow in both slowings (for an emergency stop)"
    (send "00WN,100,01,10,20,+3,x1,000" ∷ send "00PS,100" ∷ Millisecond ∷ send "00EE" ∷ []) (Order "slow,1,0,0") ∷
    Case "until idle, moving or the budget is spent, judged in that order (idle)"
    (send "00WN,100,65,1,000" ∷ send "00PS,100" ∷ []) (Waits 2 "idle 2") ∷
    Case "until idle, moving or the budget is spent, judged in that order (spent)"
    (send "00WN,100,65,1,000" ∷ send "00PS,100" ∷ []) (Waits 1 "spent 1") ∷
    Case "the drive being as after that many"
    (send "00WN,100,65,9,000" ∷ send "00PS,100" ∷ Wait 3 ∷ send "00EE" ∷ []) (Answer "00QR" "00QR,100,+7,0") ∷
    []

-- the refusals by operation
unfoldable pub of_refusals : List Worked
of_refusals =
    Case "3, answer buffer under 64 bytes" [] (Refusal (SendString [] (replicate 63 0)) 3) ∷
    Case "4, word above 2,047" [] (Refusal (SetInputs 2048) 4) ∷
    Case "5, no run under way" (send "00WN,100,65,9,000" ∷ send "00PS,100" ∷ Millisecond ∷ []) (Refusal Step 5) ∷
    Case "6, at-speed outside the run or braking of a ramp run"
    (send "00WN,100,12,05,+,x1,000" ∷ send "00PS,100" ∷ Millisecond ∷ []) (Refusal AtSpeed 6) ∷
    Case "6, at-speed outside the run or braking of a ramp run (in braking)"
    (send "00WN,100,05,10,20,+,3,x1,000" ∷ send "00PS,100" ∷ Millisecond ∷ AtSpeed ∷ send "00ES" ∷ []) (Refusal AtSpeed 0) ∷
    Case "6, .. halted outside both slowings"
    (send "00WN,100,02,10,20,+,x1,000" ∷ send "00PS,100" ∷ Millisecond ∷ []) (Refusal Halted 6) ∷
    Case "8, budget 0 or above 1,000,000 (0)" [] (Refusal (Wait 0) 8) ∷
    Case "8, budget 0 or above 1,000,000 (1,000,001)" [] (Refusal (Wait 1000001) 8) ∷
    []

-- ---- 02, Slip 4

-- targets and limits of absolute mode
unfoldable pub of_targets : List Worked
of_targets =
    Case "In absolute mode n is the target itself for x1 and x4"
    (send "00WS,CM,1" ∷ send "00SA,3" ∷ send "00WN,100,11,05,+5,x4,000" ∷ send "00PS,100" ∷ Millisecond ∷ Step ∷ Step ∷ [])
    (Answer "00QA" "00QA,+5") ∷
    Case "only the frequency is multiplied"
    (send "00WS,CM,1" ∷ send "00WN,100,11,05,+8388607,x4,000" ∷ send "00PS,100" ∷ Millisecond ∷ []) (Order "run,+,2000,0,+8388607,1,0,0") ∷
    Case "A shift beyond 8,388,607 either way gives error 50 in both (forward)"
    (send "00WS,CM,1" ∷ send "00SA,-1" ∷ send "00WN,100,11,05,+8388607,x4,000" ∷ send "00PS,100" ∷ Millisecond ∷ [])
    (Answer "00QE" "00QE,50,100") ∷
    Case "A shift beyond 8,388,607 either way gives error 50 in both (back)"
    (send "00WS,CM,1" ∷ send "00SA,8388608" ∷ send "00WN,100,11,05,+0,x4,000" ∷ send "00PS,100" ∷ Millisecond ∷ [])
    (Answer "00QE" "00QE,50,100") ∷
    Case "A shift beyond 8,388,607 either way gives error 50 in both (back, to the limit)"
    (send "00WS,CM,1" ∷ send "00SA,8388607" ∷ send "00WN,100,11,05,+0,x4,000" ∷ send "00PS,100" ∷ Millisecond ∷ [])
    (Order "run,-,2000,0,-8388607,1,0,0") ∷
    Case "A shift beyond 8,388,607 either way gives error 50 in both (from the first position)"
    (send "00WS,CM,1" ∷ send "00SA,-2147483648" ∷ send "00WN,100,11,05,+8388607,x4,000" ∷ send "00PS,100" ∷ Millisecond ∷ [])
    (Answer "00QE" "00QE,50,100") ∷
    Case "A shift beyond 8,388,607 either way gives error 50 in both (from the last position)"
    (send "00WS,CM,1" ∷ send "00SA,2147483647" ∷ send "00WN,100,11,05,-8388607,x4,000" ∷ send "00PS,100" ∷ Millisecond ∷ [])
    (Answer "00QE" "00QE,50,100") ∷
    []

-- what stays: the order of the errors, relative runs, the steps of a 05, rests
unfoldable pub of_multipliers : List Worked
of_multipliers =
    Case "01: x4 with RS not D2, D3, B2, B3 is error 51, before 50"
    (send "00WS,CM,1" ∷ send "00WS,RS,D1" ∷ send "00SA,-1" ∷ send "00WN,100,11,05,+8388607,x4,000" ∷ send "00PS,100" ∷ Millisecond ∷ [])
    (Answer "00QE" "00QE,51,100") ∷
    Case "01: Shift 0 passes on"
    (send "00WS,CM,1" ∷ send "00SA,5" ∷ send "00WN,100,11,05,+5,x4,000" ∷ send "00PS,100" ∷ []) (Waits 9 "idle 1") ∷
    Case "Relative runs .. still multiply"
    (send "00SA,2147483647" ∷ send "00WN,100,11,05,-8388607,x4,000" ∷ send "00PS,100" ∷ Millisecond ∷ [])
    (Order "run,-,2000,0,-33554428,1,0,0") ∷
    Case "the steps of 05 still multiply"
    (send "00WS,CM,1" ∷ send "00WN,100,05,10,20,+,3,x4,000" ∷ send "00PS,100" ∷ Millisecond ∷ AtSpeed ∷ send "00ES" ∷ [])
    (Order "run,+,40000,20,+12,1,0,0") ∷
    Case "01: resumed .. with its rest as shift .. (50 not)"
    (send "00WN,100,11,05,+8388607,x4,000" ∷ send "00WN,101,69" ∷ send "00PS,100" ∷ Millisecond ∷ Step ∷ send "00EE" ∷ send "00WS,CM,1"
    ∷ send "00PS,101" ∷ Millisecond ∷ []) (Order "run,+,2000,0,+33554427,1,0,0") ∷
    []

-- ---- 001

-- chapters 3, 4.2 and 4.3: strings, commands, requests
unfoldable pub of_commands : List Worked
of_commands =
    Case "001, 3, example 2"
    (send "00WN,100,01,10,18,+10000,x1,000" ∷ send "00PS,100" ∷ Millisecond ∷ []) (Order "run,+,10000,18,+10000,1,0,0") ∷
    Case "001, 3, example 3"
    (send "00WN,140,01,05,15,+100000,x1,141" ∷ []) (Answer "00QM,140" "00QM,140,01,05,15,+100000,x1,141") ∷
    Case "001, 3, a stop to a busy drive" (send "00PS,100" ∷ []) (Answer "00ES" "00Y") ∷
    Case "001, 4.2.2.1" (send "00WS,AD,38" ∷ []) (Answer "38QS,AD" "38QS,AD,38") ∷
    Case "001, 4.2.2.2" (send "00WS,IN,3" ∷ []) (Order "stand,3,0,0") ∷
    Case "001, 4.2.6" (send "00PS,147" ∷ send "99EE" ∷ []) (Answer "00QR" "00QR,147,+0,0") ∷
    Case "001, 4.2.7"
    (send "00WN,100,12,05,-,x1,000" ∷ send "00PS,100" ∷ Millisecond ∷ Step ∷ send "00ES" ∷ []) (Answer "00QA" "00QA,-1") ∷
    Case "001, 4.2.9" [] (Answer "00SA,+2147483648" "00N") ∷
    Case "001, 4.3.4" [] (Answer "00QO,FA" "00QO,FA,1") ∷
    []

-- chapter 5: relative and absolute mode
unfoldable pub of_modes : List Worked
of_modes =
    Case "001, 5.1, with x4"
    (send "00WN,100,01,20,30,+2400,X4,000" ∷ send "00PS,100" ∷ Millisecond ∷ []) (Order "run,+,80000,30,+9600,1,0,0") ∷
    Case "001, 5.2, from a position that is higher"
    (send "00WS,CM,1" ∷ send "00SA,2500" ∷ send "00WN,100,01,20,30,+2400,X1,000" ∷ send "00PS,100" ∷ Millisecond ∷ [])
    (Order "run,-,20000,30,-100,1,0,0") ∷
    Case "001, 5.2, the borderline case"
    (send "00WS,CM,1" ∷ send "00SA,2400" ∷ send "00WN,100,01,20,30,+2400,X1,000" ∷ send "00PS,100" ∷ []) (Waits 9 "idle 1") ∷
    Case "001, 5.2, field overflow"
    (send "00WS,CM,1" ∷ send "00SA,-8388607" ∷ send "00WN,100,01,20,30,+2400,X1,000" ∷ send "00PS,100" ∷ Millisecond ∷ [])
    (Answer "00QE" "00QE,50,100") ∷
    Case "001, 5.2, with x4"
    (send "00WS,CM,1" ∷ send "00WN,100,01,20,30,+2400,X4,000" ∷ send "00PS,100" ∷ Millisecond ∷ []) (Order "run,+,80000,30,+2400,1,0,0") ∷
    []

-- chapter 4.1: runs
unfoldable pub of_instructions : List Worked
of_instructions =
    Case "001, 4.1.2"
    (send "00WN,156,31,091,15,+31754,x1,121" ∷ send "00PS,156" ∷ Millisecond ∷ []) (Order "run,+,9100,15,+31754,1,0,0") ∷
    Case "001, 4.1.3"
    (send "00WN,140,02,10,18,+,x1,210" ∷ send "00WN,210,58,O0,1,000" ∷ send "00PS,140" ∷ Millisecond ∷ send "00ES" ∷ Step ∷ Halted ∷ Millisecond
    ∷ []) (Answer "00QO,O0" "00QO,O0,1") ∷
    Case "001, 4.1.8"
    (send "00WN,176,22,2200,+,x4,133" ∷ send "00PS,176" ∷ Millisecond ∷ []) (Order "run,+,8724,0,+0,1,0,0") ∷
    Case "001, 4.1.9, going back"
    (send "00WN,146,03,20,10,+,05,182" ∷ send "00PS,146" ∷ Millisecond ∷ Step ∷ SetInputs px ∷ Step ∷ Halted ∷ [])
    (Order "run,-,500,0,+0,1,0,0") ∷
    []

-- the search for the zero, whole
unfoldable pub of_searches : List Worked
of_searches =
    Case "001, 4.1.9, with the counter reset"
    (send "00WN,146,03,20,10,+,05,182" ∷ send "00WN,182,60,000" ∷ send "00PS,146" ∷ Millisecond ∷ Step ∷ SetInputs px ∷ Step ∷ Halted ∷ Step
    ∷ SetInputs 0 ∷ Millisecond ∷ []) (Answer "00QA" "00QA,+0") ∷
    []

-- the electronic cam
unfoldable pub of_cams : List Worked
of_cams =
    Case "001, 4.1.10, notes 1 and 2"
    (send "00SO,O3,1" ∷ send "00WN,177,57,1,+2,191" ∷ send "00WN,191,11,30,+3,x1,192" ∷ send "00WN,192,11,30,-3,x1,000" ∷ send "00PS,177"
    ∷ Millisecond ∷ Millisecond ∷ Step ∷ Step ∷ Step ∷ Millisecond ∷ Step ∷ Step ∷ Step ∷ []) (Answer "00QO,O3" "00QO,O3,0") ∷
    []

-- jumps, delayed stop, current
unfoldable pub of_programs : List Worked
of_programs =
    Case "001, 4.1.13, note"
    (send "00WN,100,00,116" ∷ send "00WN,116,58,O2,1,000" ∷ SetInputs st ∷ Wait 9 ∷ []) (Answer "00QO,O2" "00QO,O2,1") ∷
    Case "001, 4.1.14, note, while I1 is 0" (send "00WN,180,63,I1,0,180,000" ∷ send "00PS,180" ∷ []) (Waits 5 "spent 5") ∷
    Case "001, 4.1.14, note, when I1 is 1"
    (send "00WN,180,63,I1,0,180,000" ∷ send "00PS,180" ∷ SetInputs i1 ∷ []) (Waits 5 "idle 1") ∷
    Case "001, 4.1.16"
    (send "00WN,165,05,10,20,+,3000,x1,205" ∷ send "00PS,165" ∷ Millisecond ∷ Step ∷ AtSpeed ∷ SetInputs es ∷ [])
    (Order "run,+,10000,20,+3000,1,0,0") ∷
    Case "001, 4.1.16, note 2"
    (send "00WN,165,05,10,20,-,0,x1,000" ∷ send "00PS,165" ∷ Millisecond ∷ AtSpeed ∷ SetInputs es ∷ Step ∷ []) (Answer "00QA" "00QA,-1") ∷
    Case "001, 4.1.16, note 3"
    (send "00WN,165,05,10,20,+,3,x1,000" ∷ send "00PS,165" ∷ Millisecond ∷ AtSpeed ∷ send "00EE" ∷ Halted ∷ []) (Answer "00QR" "00QR,000") ∷
    Case "001, 4.1.17" (send "00WN,180,70,1,190" ∷ send "00PS,180" ∷ Wait 9 ∷ []) (Order "stand,1,1,0") ∷
    []

-- a loop: one millisecond for the 61, ten rounds of 1 + 501 + 1 + 501 + 1, and one for the run
unfoldable pub of_loops : List Worked
of_loops =
    Case "001, 4.1.19, example 2 of loop"
    (send "00WN,100,61,10,121" ∷ send "00WN,121,58,O0,1,122" ∷ send "00WN,122,65,500,123" ∷ send "00WN,123,58,O0,0,124"
    ∷ send "00WN,124,65,500,125" ∷ send "00WN,125,62,121,130" ∷ send "00WN,130,11,05,+6000,x1,000" ∷ send "00PS,100" ∷ [])
    (Waits 20000 "moving 10052") ∷
    []

-- ---- 02, Slip 6

-- what a 65 and a 61 take, and what remains of a delay
unfoldable pub of_delays : List Worked
of_delays =
    Case "Code 65 takes 0 to 8,388,607 milliseconds (0)" [] (Answer "00WN,100,65,0,000" "00Y") ∷
    Case "Code 65 takes 0 to 8,388,607 milliseconds (65,536)" (send "00WN,100,65,65536,000" ∷ []) (Answer "00QM,100" "00QM,100,65,65536,000") ∷
    Case "Code 65 takes 0 to 8,388,607 milliseconds (8,388,607)" (send "00WN,100,65,8388607,000" ∷ [])
    (Answer "00QM,100" "00QM,100,65,8388607,000") ∷
    Case "Code 65 takes 0 to 8,388,607 milliseconds (one more)" [] (Answer "00WN,100,65,8388608,000" "00N") ∷
    Case "loop counts stay at 65,535 (65,535)" [] (Answer "00WN,100,61,65535,000" "00Y") ∷
    Case "loop counts stay at 65,535 (one more)" [] (Answer "00WN,100,61,65536,000" "00N") ∷
    Case "Interrupted rests .. follow the new limit" (send "00WN,100,65,8388607,000" ∷ send "00PS,100" ∷ Wait 3 ∷ send "00EE" ∷ [])
    (Answer "00QR" "00QR,100,+8388605,0") ∷
    Case "delays .. follow the new limit (resumed by a 69)"
    (send "00WN,100,65,8388607,000" ∷ send "00WN,101,69" ∷ send "00PS,100" ∷ Wait 3 ∷ send "00EE" ∷ send "00PS,101" ∷ Wait 3 ∷ send "00EE" ∷ [])
    (Answer "00QR" "00QR,100,+8388603,0") ∷
    Case "a drive that holds such a cell is sound" (send "00WN,100,65,8388607,000" ∷ []) (Refusal Millisecond 0) ∷
    []

-- waits over longer delays
unfoldable pub of_budgets : List Worked
of_budgets =
    Case "the budget of a wait keeps its own (a delay of 8,388,607)" (send "00WN,100,65,8388607,000" ∷ send "00PS,100" ∷ [])
    (Waits 1000000 "spent 1000000") ∷
    Case "the budget of a wait keeps its own (a delay of 999,999)" (send "00WN,100,65,999999,000" ∷ send "00PS,100" ∷ [])
    (Waits 1000000 "idle 1000000") ∷
    Case "the budget of a wait keeps its own (1,000,001)" (send "00WN,100,65,8388607,000" ∷ send "00PS,100" ∷ []) (Refusal (Wait 1000001) 8) ∷
    []

-- ---- every case holds

pub record WorkedCases : Type 0 where
  pub strings : unmet of_strings ≡ []
  pub starts : unmet of_starts ≡ []
  pub codes : unmet of_codes ≡ []
  pub counts : unmet of_counts ≡ []
  pub runs : unmet of_runs ≡ []
  pub stops : unmet of_stops ≡ []
  pub records : unmet of_records ≡ []
  pub recoveries : unmet of_recoveries ≡ []
  pub resumptions : unmet of_resumptions ≡ []
  pub orders : unmet of_orders ≡ []
  pub refusals : unmet of_refusals ≡ []
  pub targets : unmet of_targets ≡ []
  pub multipliers : unmet of_multipliers ≡ []
  pub commands : unmet of_commands ≡ []
  pub modes : unmet of_modes ≡ []
  pub instructions : unmet of_instructions ≡ []
  pub searches : unmet of_searches ≡ []
  pub cams : unmet of_cams ≡ []
  pub programs : unmet of_programs ≡ []
  pub loops : unmet of_loops ≡ []
  pub delays : unmet of_delays ≡ []
  pub budgets : unmet of_budgets ≡ []
