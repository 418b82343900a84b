-- Codes of what contracts see.
use Rattle.std.specs.Prelude.{ℕ, List, Option, refl}
use Rattle.std.specs.Coded.{Coded, code_by, coded_ℕ, coded_list, coded_option, coded×}
use Rattle.cl_events.specs.declared.event.Event.{Event}
use Rattle.cl_listeners.specs.Hearing.{Heard, Both}
use Rattle.cl_listeners.specs.Recording.{RecorderState}

pub heard_code : Coded Event → Coded Heard
heard_code event = code_by (ℕ × (Option (List Event) × ℕ)) (coded× coded_ℕ (coded× (coded_option (coded_list event)) coded_ℕ))
    (λ h. (h.number, (h.heard, h.faults))) (λ p. record { number = p.0; heard = p.1.0; faults = p.1.1 }) (λ h. refl)

pub both_code : Coded Event → Coded Both
both_code event = code_by (List Heard × List Heard) (coded× (coded_list (heard_code event)) (coded_list (heard_code event)))
    (λ b. (b.active, b.deaf)) (λ p. record { active = p.0; deaf = p.1 }) (λ b. refl)

pub recorder_code : Coded Event → Coded RecorderState
recorder_code event = code_by (List Event × (List ℕ × (ℕ × ℕ))) (coded× (coded_list event) (coded× (coded_list coded_ℕ) (coded× coded_ℕ coded_ℕ)))
    (λ r. (r.heard, (r.fails, (r.calls, r.faults)))) (λ p. record { heard = p.0; fails = p.1.0; calls = p.1.1.0; faults = p.1.1.1 }) (λ r. refl)
