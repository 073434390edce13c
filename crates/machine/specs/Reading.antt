-- 01: "The full reading, at the drive's own address: QM of 131 cells, QS of 5, QA, QO of O0 to O3, FC, F0 to F7, CU, QI of 11, QC, QE, QR: 165."
-- Assumes nothing.
use Rattle.std.specs.Prelude.{ℕ, zero, suc, ◌+◌, List, [], ◌∷◌, ◌++◌, map, replicate, set}
use Rattle.laws.specs.Text.{bytes}
use Rattle.decimal.specs.Printing.{digits}
use Rattle.fields.specs.Rows.{print_fields}
use Rattle.fields.specs.declared.kinds.Kind.TheVariants.{Name}
use Rattle.fields.specs.declared.names.Names.TheVariants.{Outputs, Inputs, Presets}
use Rattle.format.specs.Formats.{cell}
use Rattle.machine.specs.Calls.{Call, Seen, look, seen}
use Rattle.machine.specs.Calls.Call.{SendString}
use Rattle.machine.specs.declared.Machine.{Machine}

-- the requests, by the place of a cell, a preset, an output or an input in its list
pub data Request : Type 0 where
  Cell : ℕ → Request
  Preset : ℕ → Request
  Position : Request
  Output : ℕ → Request
  Input : ℕ → Request
  Cam : Request
  Fault : Request
  Suspended : Request

-- the places from k on, n of them
unfoldable pub places : ℕ → ℕ → List ℕ
places zero k = []
places (suc n) k = k ∷ places n (suc k)

unfoldable pub requests : List Request
requests =
    map Cell (places 131 0) ++ (map Preset (places 5 0) ++ (Position ∷ (map Output (places 14 0) ++ (map Input (places 11 0) ++
    (Cam ∷ Fault ∷ Suspended ∷ [])))))

-- the code and the fields of a request
unfoldable pub request_text : Request → List ℕ
request_text (Cell k) = bytes "QM" ++ print_fields (cell ∷ []) ((100 + k) ∷ [])
request_text (Preset k) = bytes "QS" ++ print_fields (Name Presets ∷ []) (k ∷ [])
request_text Position = bytes "QA"
request_text (Output k) = bytes "QO" ++ print_fields (Name Outputs ∷ []) (k ∷ [])
request_text (Input k) = bytes "QI" ++ print_fields (Name Inputs ∷ []) (k ∷ [])
request_text Cam = bytes "QC"
request_text Fault = bytes "QE"
request_text Suspended = bytes "QR"

-- 01: "The full reading is taken with buffers of 64 bytes"
unfoldable pub ask : ℕ → Request → Call
ask aa r = SendString (digits 2 aa ++ (request_text r ++ (13 ∷ []))) (replicate 64 0)

unfoldable pub reading : Machine → List (List ℕ)
reading m = map (λ (s : Seen). s.answer) (seen (map (ask m.state.presets.address.0) requests) m)

-- demand 3: cell answers "sent straight back to it .. with WN in place of QM", with any buffer
unfoldable pub sent_back : Machine → ℕ × List ℕ → Call
sent_back m w =
    SendString (set (set (look (ask m.state.presets.address.0 (Cell w.0)) m).answer 2 87) 3 78) w.1
