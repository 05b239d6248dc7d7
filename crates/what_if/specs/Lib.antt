pub mod WhatIf
